-- What words of the work area say of a statement: one more than the number of the body that it asks; or one more than that of the first statement whose set follows from its own, and whether
-- there are more. 0 says that there is none.
use Rattle.std.specs.Prelude.{ℕ, ◌+◌, ◌-◌, ◌%◌, cond, Option, Some, None, eqb, leb}
use Rattle.flow.specs.declared.StmtId.{StmtId}
use Rattle.sure.specs.declared.encoding.Followers.{Followers}
use Rattle.sure.specs.Clauses.Layout.{more}

abbrev pub body_word : Option StmtId → ℕ
body_word None = 0
body_word (Some b) = b.0 + 1

abbrev pub followers_of : ℕ → Option Followers
followers_of w = cond (eqb (w % more) 0) None (Some (record { first = record { 0 = w % more - 1 }; more = leb more w }))

abbrev pub followers_word : Followers → ℕ
followers_word f = cond f.more (f.first.0 + 1 + more) (f.first.0 + 1)
