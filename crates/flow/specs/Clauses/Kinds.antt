-- The kinds of statements by their numbers in a file.
use Rattle.std.specs.Prelude.{ℕ, ◌≡◌, ◌<◌, ◌⊎◌, Result, MatchResult}
use Rattle.flow.specs.declared.kind.Kind.{Kind}
use Rattle.flow.specs.declared.kind.Kind.TheVariants.{Other, Return, Clr, Run, Dim, Gosub, OnGosub}
use Rattle.flow.specs.declared.kind.UnknownKind.{UnknownKind}
use Rattle.flow.specs.Format.{kind_return, kind_clr, kind_run, kind_dim, kind_gosub, kind_on_gosub}
use Rattle.flow.specs.Limits.{max_kind}

-- the number that stands for a kind
abbrev pub kind_number : Kind → ℕ
kind_number Other = 0
kind_number Return = kind_return
kind_number Clr = kind_clr
kind_number Run = kind_run
kind_number Dim = kind_dim
kind_number Gosub = kind_gosub
kind_number OnGosub = kind_on_gosub

-- the kind that a number stands for, if there is one
abbrev pub Decodes : ℕ → Result Kind UnknownKind → Type 0
Decodes number r = MatchResult r (λ kind. kind_number kind ≡ number) (λ e. (e.0 ≡ number) × (max_kind < number))

-- the kind that a number stands for; one that stands for none is taken for another statement
abbrev pub Tells : ℕ → Kind → Type 0
Tells number kind = (kind_number kind ≡ number) ⊎ ((kind ≡ Other) × (max_kind < number))
