-- The value that an accepted flow file stands for: what the file says, as lists. Everything above the file speaks of a `Flow`.
-- Sets of names are numbers whose bit i is name i.
use Rattle.std.specs.Prelude.{ℕ, cond, List, [], ◌∷◌, length, get_or, eqb}
use mathlib.Core.Option.{Option, none, some}

-- an item of a DIM: its array, and its flag, 1 with dimensions, 0 without
pub record Item : Type 0 where
  pub array : ℕ
  pub flag : ℕ

-- a statement's kind with its data; a call's continuation is missing where the file says 65535
pub data Kind : Type 0 where
  other return clr run : Kind
  dim : List Item → Kind
  gosub : ℕ → Option ℕ → Kind
  on_gosub : List ℕ → Option ℕ → Kind

-- the items of a DIM
abbrev pub items : Kind → List Item
items Kind.other = []
items Kind.return = []
items Kind.clr = []
items Kind.run = []
items (Kind.dim is) = is
items (Kind.gosub l c) = []
items (Kind.on_gosub ls c) = []

-- the lines of a call, and where it goes on
abbrev pub call_lines : Kind → List ℕ
call_lines Kind.other = []
call_lines Kind.return = []
call_lines Kind.clr = []
call_lines Kind.run = []
call_lines (Kind.dim is) = []
call_lines (Kind.gosub l c) = l ∷ []
call_lines (Kind.on_gosub ls c) = ls

abbrev pub continuation : Kind → Option ℕ
continuation Kind.other = none
continuation Kind.return = none
continuation Kind.clr = none
continuation Kind.run = none
continuation (Kind.dim is) = none
continuation (Kind.gosub l c) = c
continuation (Kind.on_gosub ls c) = c

pub record Statement : Type 0 where
  pub line : ℕ
  pub kind : Kind
  pub successors : List ℕ
  pub references : List ℕ
  pub written : ℕ
  pub read : ℕ

-- an `FL` record: a line and its first statement
pub record Line : Type 0 where
  pub number : ℕ
  pub first : ℕ

pub record Flow : Type 0 where
  pub arrays : ℕ
  pub names : ℕ
  pub entry : ℕ
  pub statements : List Statement
  pub lines : List Line
  -- request E3: the statement that the interrupt key calls, if there is one
  pub handler : Option ℕ

-- n, the number of statements
abbrev pub size : Flow → ℕ
size f = length f.statements

-- a statement that does nothing, for numbers that are no statement
abbrev pub no_statement : Statement
no_statement = record { line = 0; kind = Kind.other; successors = []; references = []; written = 0; read = 0 }

abbrev pub statement : Flow → ℕ → Statement
statement f i = get_or f.statements i no_statement

unfoldable pub first_of : List Line → ℕ → Option ℕ
first_of [] l = none
first_of (x ∷ xs) l = cond (eqb x.number l) (some x.first) (first_of xs l)

-- a line enters a statement when an `FL` record gives it; other lines enter nothing
abbrev pub enters : Flow → ℕ → Option ℕ
enters f l = first_of f.lines l
