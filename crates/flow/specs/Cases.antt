-- Flow files and how each is read: files with every kind of field, and a file for each row of the refusal table that a small file can meet. Document 01's own cases
-- stand in the table of the theory crate. A file is put together from its records.
use Rattle.std.specs.Prelude.{ℕ, zero, suc, ◌+◌, ◌/◌, ◌%◌, ◌^◌, List, [], ◌∷◌, ◌++◌, length, take}
use mathlib.Core.Option.{none, some}
use Rattle.flow.specs.declared.Refusal.TheVariants.{Record, Header, Kind, Target, Member, ReturnReference, Order, Trailing}
use Rattle.flow.specs.Flow as F
use Rattle.flow.specs.Flow.{Flow}
use Rattle.flow.specs.Format.{Reading, accepted, refused}

-- Records as bytes

-- x in w bytes, the lowest first
abbrev pub little : ℕ → ℕ → List ℕ
little zero x = []
little (suc w) x = x % 256 ∷ little w (x / 256)

abbrev pub u16s : List ℕ → List ℕ
u16s [] = []
u16s (x ∷ xs) = little 2 x ++ u16s xs

abbrev pub u64 : ℕ → List ℕ
u64 = little 8

abbrev pub FH : ℕ → ℕ → ℕ → ℕ → List ℕ
FH n arrays names entry = 70 ∷ 72 ∷ u16s (n ∷ []) ++ (arrays ∷ names ∷ u16s (entry ∷ []))

abbrev pub FN : ℕ → ℕ → List ℕ → List ℕ → ℕ → ℕ → List ℕ
FN line kind successors references written read =
    70 ∷ 78 ∷ u16s (line ∷ []) ++ (kind ∷ length successors ∷ u16s successors)
    ++ (length references ∷ references) ++ u64 written ++ u64 read

abbrev pub FL : ℕ → ℕ → List ℕ
FL line first = 70 ∷ 76 ∷ u16s (line ∷ first ∷ [])

abbrev pub FK : ℕ → List ℕ
FK handler = 70 ∷ 75 ∷ u16s (handler ∷ [])

abbrev pub FE : List ℕ
FE = 70 ∷ 69 ∷ []

-- calls with a continuation, RETURN, and a statement that is none of the kinds

abbrev pub calls_bytes : List ℕ
calls_bytes =
    FH 4 0 0 0
    ++ FN 10 5 (2 ∷ []) [] 0 0 ++ u16s (30 ∷ 1 ∷ [])
    ++ FN 20 6 [] [] 0 0 ++ (2 ∷ u16s (7 ∷ 30 ∷ 3 ∷ []))
    ++ FN 30 1 [] [] 0 0
    ++ FN 40 0 [] [] 0 0
    ++ FE

abbrev pub calls : Flow
calls = record {
  arrays = 0;
  names = 0;
  entry = 0;
  statements =
      record { line = 10; kind = F.Kind.gosub 30 (some 1); successors = 2 ∷ []; references = []; written = 0; read = 0 }
      ∷ record { line = 20; kind = F.Kind.on_gosub (7 ∷ 30 ∷ []) (some 3); successors = []; references = []; written = 0; read = 0 }
      ∷ record { line = 30; kind = F.Kind.return; successors = []; references = []; written = 0; read = 0 }
      ∷ record { line = 40; kind = F.Kind.other; successors = []; references = []; written = 0; read = 0 }
      ∷ [];
  lines = [];
  handler = none;
}

-- numbers of more than one byte, name 63, several references and successors, CLR and RUN

abbrev pub wide_bytes : List ℕ
wide_bytes =
    FH 2 3 64 1
    ++ FN 300 2 (1 ∷ 0 ∷ 1 ∷ []) (0 ∷ 2 ∷ []) (2 ^ 63) 1
    ++ FN 65535 3 [] [] 0 (2 ^ 63 + 2)
    ++ FL 300 1 ++ FL 65535 0
    ++ FE

abbrev pub wide : Flow
wide = record {
  arrays = 3;
  names = 64;
  entry = 1;
  statements =
      record { line = 300; kind = F.Kind.clr; successors = 1 ∷ 0 ∷ 1 ∷ []; references = 0 ∷ 2 ∷ []; written = 2 ^ 63; read = 1 }
      ∷ record { line = 65535; kind = F.Kind.run; successors = []; references = []; written = 0; read = 2 ^ 63 + 2 }
      ∷ [];
  lines = record { number = 300; first = 1 } ∷ record { number = 65535; first = 0 } ∷ [];
  handler = none;
}

-- two statements, the last line, and a handler, which may be any statement
abbrev pub key_bytes : ℕ → List ℕ
key_bytes h = FH 2 0 0 0 ++ FN 10 0 (1 ∷ []) [] 0 0 ++ FN 20 1 [] [] 0 0 ++ FL 20 1 ++ FK h

abbrev pub key : ℕ → Flow
key h = record {
  arrays = 0;
  names = 0;
  entry = 0;
  statements =
      record { line = 10; kind = F.Kind.other; successors = 1 ∷ []; references = []; written = 0; read = 0 }
      ∷ record { line = 20; kind = F.Kind.return; successors = []; references = []; written = 0; read = 0 }
      ∷ [];
  lines = record { number = 20; first = 1 } ∷ [];
  handler = some h;
}

-- a flow of one statement of no name, line or successor
abbrev pub alone : ℕ → F.Kind → Flow
alone arrays kind = record {
  arrays = arrays;
  names = 0;
  entry = 0;
  statements = record { line = 10; kind = kind; successors = []; references = []; written = 0; read = 0 } ∷ [];
  lines = [];
  handler = none;
}

-- The table

pub record Case : Type 0 where
  pub bytes : List ℕ
  pub reading : Reading

abbrev pub accept : List ℕ → Flow → Case
accept bytes f = record { bytes = bytes; reading = accepted f }

-- one statement, given from its kind on, in a file of arrays and names
abbrev pub one : ℕ → ℕ → List ℕ → List ℕ
one arrays names record' = FH 1 arrays names 0 ++ record'

abbrev pub read_cases : List Case
read_cases =
    accept calls_bytes calls
    ∷ accept wide_bytes wide
    -- with no statements the entry is not looked at
    ∷ accept (FH 0 64 64 9 ++ FE) (record { arrays = 64; names = 64; entry = 9; statements = []; lines = []; handler = none })
    -- the other kinds that have data
    ∷ accept (one 2 0 (FN 10 4 [] [] 0 0 ++ (2 ∷ 1 ∷ 0 ∷ 0 ∷ 1 ∷ [])) ++ FE)
    (alone 2 (F.Kind.dim (record { array = 1; flag = 0 } ∷ record { array = 0; flag = 1 } ∷ [])))
    ∷ accept (one 0 0 (FN 10 5 [] [] 0 0 ++ u16s (300 ∷ 65535 ∷ [])) ++ FE) (alone 0 (F.Kind.gosub 300 none))
    ∷ accept (one 0 0 (FN 10 6 [] [] 0 0 ++ (2 ∷ u16s (7 ∷ 300 ∷ 65535 ∷ []))) ++ FE) (alone 0 (F.Kind.on_gosub (7 ∷ 300 ∷ []) none))
    -- the handler: the first statement and the last
    ∷ accept (key_bytes 0 ++ FE) (key 0)
    ∷ accept (key_bytes 1 ++ FE) (key 1)
    -- 2: no mark, a wrong mark, a field past the end
    ∷ record { bytes = []; reading = refused (Record 0) }
    ∷ record { bytes = FH 0 0 0 0 ++ (71 ∷ 69 ∷ []); reading = refused (Record 8) }
    ∷ record { bytes = FH 1 0 0 0 ++ FE; reading = refused (Record 8) }
    ∷ record { bytes = one 0 0 (70 ∷ 78 ∷ 10 ∷ []); reading = refused (Record 8) }
    ∷ record { bytes = one 0 0 (FN 10 4 [] [] 0 0); reading = refused (Record 8) }
    -- FK where FH or FN is due; twice; before FL; where the file ends in its mark, in its number and after it
    ∷ record { bytes = FK 0; reading = refused (Record 0) }
    ∷ record { bytes = FH 2 0 0 0 ++ FN 10 0 (1 ∷ []) [] 0 0 ++ FK 0 ++ FE; reading = refused (Record 33) }
    ∷ record { bytes = key_bytes 1 ++ FK 1 ++ FE; reading = refused (Record 66) }
    ∷ record { bytes = key_bytes 1 ++ FL 30 0 ++ FE; reading = refused (Record 66) }
    ∷ record { bytes = take 63 (key_bytes 1); reading = refused (Record 62) }
    ∷ record { bytes = take 64 (key_bytes 1); reading = refused (Record 62) }
    ∷ record { bytes = take 65 (key_bytes 1); reading = refused (Record 62) }
    ∷ record { bytes = key_bytes 1; reading = refused (Record 66) }
    -- 3: 2,049 statements and not 2,048, 65 arrays, 65 names, the entry n, or 256
    ∷ record { bytes = FH 2049 0 0 0; reading = refused (Header 0) }
    ∷ record { bytes = FH 2048 0 0 0; reading = refused (Record 8) }
    ∷ record { bytes = FH 0 65 0 0 ++ FE; reading = refused (Header 0) }
    ∷ record { bytes = FH 0 0 65 0 ++ FE; reading = refused (Header 0) }
    ∷ record { bytes = FH 1 0 0 1; reading = refused (Header 0) }
    ∷ record { bytes = FH 1 0 0 256; reading = refused (Header 0) }
    -- 4: kind 7, in a record that is short behind it; a flag of 2
    ∷ record { bytes = one 0 0 (70 ∷ 78 ∷ 10 ∷ 0 ∷ 7 ∷ []); reading = refused (Kind 8) }
    ∷ record { bytes = one 1 0 (FN 10 4 [] [] 0 0 ++ (1 ∷ 0 ∷ 2 ∷ [])) ++ FE; reading = refused (Kind 8) }
    -- 5: a successor, a continuation and the statement of a line that are n, or 256; a successor before a reference and before a line
    ∷ record { bytes = one 0 0 (FN 10 0 (1 ∷ []) (0 ∷ []) 0 0) ++ FL 10 1 ++ FE; reading = refused (Target 8) }
    ∷ record { bytes = one 0 0 (FN 10 0 (256 ∷ []) [] 0 0) ++ FE; reading = refused (Target 8) }
    ∷ record { bytes = one 0 0 (FN 10 5 [] [] 0 0 ++ u16s (7 ∷ 1 ∷ [])) ++ FE; reading = refused (Target 8) }
    ∷ record { bytes = one 0 0 (FN 10 6 [] [] 0 0 ++ (1 ∷ u16s (7 ∷ 256 ∷ []))) ++ FE; reading = refused (Target 8) }
    ∷ record { bytes = FH 0 0 0 0 ++ FL 10 0 ++ FE; reading = refused (Target 8) }
    ∷ record { bytes = one 0 0 (FN 10 0 [] [] 0 0) ++ FL 10 256 ++ FE; reading = refused (Target 31) }
    -- a handler that is n, or 65535, before what stands behind it; any with no statements
    ∷ record { bytes = key_bytes 2 ++ FK 1; reading = refused (Target 62) }
    ∷ record { bytes = key_bytes 65535 ++ FE; reading = refused (Target 62) }
    ∷ record { bytes = FH 0 0 0 0 ++ FK 0 ++ FE; reading = refused (Target 8) }
    -- 6: the array `arrays`, before the order of the next; the name bit `names`, before a flag; an item's array
    ∷ record { bytes = one 1 0 (FN 10 0 [] (1 ∷ 0 ∷ []) 0 0) ++ FE; reading = refused (Member 8) }
    ∷ record { bytes = one 1 1 (FN 10 4 [] [] 2 0 ++ (1 ∷ 0 ∷ 2 ∷ [])) ++ FE; reading = refused (Member 8) }
    ∷ record { bytes = one 0 1 (FN 10 0 [] [] 0 2) ++ FE; reading = refused (Member 8) }
    ∷ record { bytes = one 1 0 (FN 10 4 [] [] 0 0 ++ (1 ∷ 1 ∷ 0 ∷ [])) ++ FE; reading = refused (Member 8) }
    -- 7: a RETURN that refers to an array, before a name
    ∷ record { bytes = one 1 0 (FN 10 1 [] (0 ∷ []) 1 0) ++ FE; reading = refused (ReturnReference 8) }
    -- 8: references and lines that stay equal; a line before its statement and before the end
    ∷ record { bytes = one 1 0 (FN 10 0 [] (0 ∷ 0 ∷ []) 0 0) ++ FE; reading = refused (Order 8) }
    ∷ record { bytes = one 0 0 (FN 10 0 [] [] 0 0) ++ FL 10 0 ++ FL 10 1; reading = refused (Order 37) }
    -- 9: a byte after the end, and an FK
    ∷ record { bytes = FH 0 0 0 0 ++ FE ++ (0 ∷ []); reading = refused (Trailing 10) }
    ∷ record { bytes = key_bytes 1 ++ FE ++ FK 1; reading = refused (Trailing 68) }
    ∷ []
