-- Document 01, "Flows worked through", as one table: P1 to P10 and the line "Also", then a file for each point of "Where a port goes astray" and for each rule, those of
-- requests E1 to E3, E5 and E6 too, that a wrong definition would fail. A case is a step, or a file as bytes with the verdict on it and what is known of it: masks, visits, term 1's bound,
-- live sets, listing, certain names, sure arrays, names that interfere, tables that are accepted.
use Rattle.std.specs.Prelude.{ℕ, ◌+◌, ◌-◌, ◌*◌, ◌/◌, ◌^◌, Bool, true, false, not, ◌&&◌, List, [], ◌∷◌, ◌++◌, map, eqb, length, replicate, take, get_or, set}
use Prim.Native.Char.{code}
use Prim.Native.String.{String, [] as []ˢ, ◌∷◌ as ◌∷ˢ◌}
use Rattle.masks.specs.declared.Effect.{Effect}
use Rattle.masks.specs.declared.Effect.TheVariants.{Reference, Touched}
use Rattle.masks.specs.Step.{step_of}
use Rattle.masks.specs.State.{State, state_mask, holds}
use Rattle.flow.specs.Flow.{Flow, size}
use Rattle.flow.specs.Limits.{no_continuation, work_words}
use Rattle.flow.specs.Format.{Verdict, verdict, file_checks, area_check, area_checks, flow_of}
use Rattle.flow.specs.Format.{verdict_number, verdict_place}
use Rattle.flow.specs.Cases.{u16s, FH, FN, FL, FK, FE}
use Rattle.theory.specs.Lists.{any, concat_map, up_to, sum_below}
use Rattle.theory.specs.Sure.{sure}
use Rattle.theory.specs.Queue.{visit_bound}
use Rattle.theory.specs.Doubled.{doubled}
use Rattle.theory.specs.Computed.{mask_of, visits_of, own_mask}
use Rattle.theory.specs.Accept.{proposed, proposal_checks, accepted as is_accepted}
use Rattle.theory.specs.Live.{bit_of, live_in_word, live_out_word}
use Rattle.theory.specs.Certain.{certain_word}
use Rattle.theory.specs.Interference.{interference_word, most_live}
use Rattle.theory.specs.Listing.{listing, long_text}

-- what is known of a file
pub data Fact : Type 0 where
  -- statement by statement
  masks live_in live_out : List ℕ → Fact
  -- statement by statement, the arrays that are sure for it: bit a is array a
  sure_arrays : List ℕ → Fact
  visits bound : ℕ → Fact
  -- the lines that the listing program prints
  prints : List String → Fact
  -- areas for masks, live-in, live-out and work of these lengths: refused by this number, or 0
  areas : ℕ → ℕ → ℕ → ℕ → ℕ → Fact
  -- the word of certain names
  certain : ℕ → Fact
  -- request E1's one area, of this length: refused by this number, or 0
  work : ℕ → ℕ → Fact
  -- name by name, the word of those that it interferes with
  interference : List ℕ → Fact
  -- how many names are live at once
  at_once : ℕ → Fact
  -- request E5's areas, for rows and work of these lengths: refused by this number, or 0
  rows : ℕ → ℕ → ℕ → Fact
  -- our own masks by doubled number, row by row: they are accepted, and with any one state taken away they are not
  own : List ℕ → Fact
  -- a proposal of these bytes is accepted, or not
  accepts declines : List ℕ → Fact
  -- request E6's areas, a proposal of these bytes and work of this length: refused by this number at this place, or 0 and 0
  proposal : List ℕ → ℕ → ℕ → ℕ → Fact

pub data Case : Type 0 where
  -- an effect on a mask, and what it gives
  step : Effect → ℕ → ℕ → Case
  accepted : List ℕ → List Fact → Case
  -- by this number, at this place
  refused : List ℕ → ℕ → ℕ → List Fact → Case
  -- the lines that are printed for an input that is too long
  long : List String → Case

-- A statement's record, by its kind: line, successors and references; it writes and reads no name

abbrev pub other : ℕ → List ℕ → List ℕ → List ℕ
other l ss rs = FN l 0 ss rs 0 0

abbrev pub returns : ℕ → List ℕ → List ℕ
returns l ss = FN l 1 ss [] 0 0

abbrev pub clr : ℕ → List ℕ → List ℕ → List ℕ
clr l ss rs = FN l 2 ss rs 0 0

abbrev pub run : ℕ → List ℕ → List ℕ → List ℕ
run l ss rs = FN l 3 ss rs 0 0

-- with its items, each an array and a flag
abbrev pub dim : ℕ → List ℕ → List ℕ → List ℕ → List ℕ
dim l items ss rs = FN l 4 ss rs 0 0 ++ (length items / 2 ∷ items)

-- with its line and its continuation
abbrev pub gosub : ℕ → ℕ → ℕ → List ℕ → List ℕ → List ℕ
gosub l to k ss rs = FN l 5 ss rs 0 0 ++ u16s (to ∷ k ∷ [])

abbrev pub on_gosub : ℕ → List ℕ → ℕ → List ℕ → List ℕ → List ℕ
on_gosub l tos k ss rs = FN l 6 ss rs 0 0 ++ (length tos ∷ u16s tos) ++ u16s (k ∷ [])

-- P5 from this entry on, with this call and this statement 2: lines 10, 20, 30, 40 at statements 0 to 3; 1 reads name 0 and references array 0; 3 RETURN;
-- 1 array, 1 name
abbrev pub p5_from : ℕ → List ℕ → List ℕ → List ℕ
p5_from entry call body =
    FH 4 1 1 entry
    ++ call
    ++ FN 20 0 [] (0 ∷ []) 0 1
    ++ body
    ++ returns 40 []
    ++ FL 10 0 ++ FL 20 1 ++ FL 30 2 ++ FL 40 3
    ++ FE

-- 0 is GOSUB 30, continuation 1, successor 2
abbrev pub p5_with : List ℕ → List ℕ
p5_with body = p5_from 0 (gosub 10 30 1 (2 ∷ []) []) body

-- 2 references array 0, successor 3
abbrev pub p5 : List ℕ
p5 = p5_with (other 30 (3 ∷ []) (0 ∷ []))

-- 0 is an ON GOSUB that lists the body alone: it touches what the body refers to, and nothing is sure for it
abbrev pub p5_touching : List ℕ → List ℕ
p5_touching body = p5_from 0 (on_gosub 10 (30 ∷ []) 1 (2 ∷ []) []) body

-- P5 with 2 a DIM of array 0, flag 1, no reference
abbrev pub p6 : List ℕ
p6 = p5_with (dim 30 (0 ∷ 1 ∷ []) (3 ∷ []) [])

-- flag 0
abbrev pub p7 : List ℕ
p7 = p5_with (dim 30 (0 ∷ 0 ∷ []) (3 ∷ []) [])

-- CLR instead
abbrev pub p8 : List ℕ
p8 = p5_with (clr 30 (3 ∷ []) [])

-- 0 is GOSUB to itself, successor 0, continuation 1 a RETURN, 1 array, entry 0
abbrev pub p9 : List ℕ
p9 = FH 2 1 0 0 ++ gosub 10 10 1 (0 ∷ []) [] ++ returns 20 [] ++ FL 10 0 ++ FL 20 1 ++ FE

-- n 0
abbrev pub p10 : List ℕ
p10 = FH 0 0 0 0 ++ FE

-- "Also"

-- one statement and so many arrays
abbrev pub with_arrays : ℕ → List ℕ
with_arrays k = FH 1 k 0 0 ++ other 10 [] [] ++ FE

abbrev pub with_entry : ℕ → List ℕ
with_entry i = p5_from i (gosub 10 30 1 (2 ∷ []) []) (other 30 (3 ∷ []) (0 ∷ []))

-- "Where a port goes astray"

-- a DIM without dimensions makes its body opaque: statement 1 keeps no NONE
abbrev pub dim_flag0 : List ℕ
dim_flag0 = p5_touching (dim 30 (0 ∷ 0 ∷ []) (3 ∷ []) (0 ∷ []))

-- statements 4 and 5 end an opaque body and are one that is not: only in base 0 does their RETURN go back to statement 1
abbrev pub shared_return : List ℕ
shared_return =
    FH 6 1 0 0
    ++ gosub 10 40 1 (3 ∷ []) []
    ++ gosub 20 50 2 (4 ∷ []) (0 ∷ [])
    ++ other 30 [] []
    ++ clr 40 (4 ∷ []) []
    ++ other 50 (5 ∷ []) []
    ++ returns 60 []
    ++ FL 40 3 ++ FL 50 4
    ++ FE

-- in base n statement 1 enters its own continuation: that one edge carries the touched step, though the array is sure
abbrev pub entered_continuation : List ℕ
entered_continuation =
    FH 5 1 0 0
    ++ gosub 10 20 4 (1 ∷ []) []
    ++ gosub 20 30 2 (2 ∷ []) []
    ++ other 30 (3 ∷ []) (0 ∷ [])
    ++ returns 40 []
    ++ other 50 [] []
    ++ FL 20 1 ++ FL 30 2
    ++ FE

-- the loop brings AUTO to statement 1 at its second visit only, and statement 2 must hear of it
abbrev pub second_visit : List ℕ
second_visit = FH 3 1 0 0 ++ other 10 (1 ∷ []) [] ++ other 20 (2 ∷ []) [] ++ other 30 (1 ∷ []) (0 ∷ []) ++ FE

-- no walk comes to statement 2, so its edge brings nothing; statement 1 is listed twice and waits once
abbrev pub unvisited : List ℕ
unvisited = FH 3 1 0 0 ++ other 10 (1 ∷ 1 ∷ []) [] ++ other 20 [] [] ++ dim 30 (0 ∷ 1 ∷ []) (1 ∷ []) [] ++ FE

-- The rules one by one

-- RUN in a body that references array 0: it makes the body opaque, and the mask NONE
abbrev pub run_in_body : List ℕ
run_in_body = p5_with (run 30 (3 ∷ []) (0 ∷ []))

-- P5 with ON GOSUB 30, which may also go to its continuation
abbrev pub p5_on : List ℕ
p5_on = p5_from 0 (on_gosub 10 (30 ∷ []) 1 (2 ∷ 1 ∷ []) []) (other 30 (3 ∷ []) (0 ∷ []))

-- the entry is statement 1; a DIM steps its own array only, CLR and RUN all; a reference comes before CLR
abbrev pub steps : List ℕ
steps =
    FH 8 2 0 1
    ++ other 10 [] []
    ++ other 20 (2 ∷ []) (0 ∷ 1 ∷ [])
    ++ dim 30 (1 ∷ 1 ∷ []) (3 ∷ []) []
    ++ clr 40 (4 ∷ []) (0 ∷ [])
    ++ other 50 (5 ∷ []) (0 ∷ [])
    ++ run 60 (6 ∷ []) []
    ++ dim 70 (0 ∷ 1 ∷ []) (7 ∷ []) (0 ∷ [])
    ++ other 80 [] []
    ++ FE

-- a DIM without items leaves its body as it is
abbrev pub no_items : List ℕ
no_items = p5_touching (dim 30 [] (3 ∷ []) (0 ∷ []))

-- statement 2 has no continuation: it calls no body, and the CLR at its line is not met
abbrev pub ordinary_call : List ℕ
ordinary_call =
    FH 5 1 0 0
    ++ on_gosub 10 (30 ∷ []) 1 (2 ∷ []) []
    ++ other 20 [] []
    ++ gosub 30 50 no_continuation (3 ∷ []) (0 ∷ [])
    ++ returns 40 []
    ++ clr 50 [] []
    ++ FL 30 2 ++ FL 50 4
    ++ FE

-- the body at 2 calls an opaque one, and its walk goes to the continuation 3 only: the RETURN at 5 does not go back to statement 1
abbrev pub nested_opaque : List ℕ
nested_opaque =
    FH 7 1 0 0
    ++ gosub 10 30 1 (2 ∷ []) []
    ++ other 20 [] []
    ++ gosub 30 50 3 (4 ∷ []) []
    ++ other 40 (6 ∷ []) (0 ∷ [])
    ++ clr 50 (5 ∷ []) []
    ++ returns 60 []
    ++ returns 70 []
    ++ FL 30 2 ++ FL 50 4
    ++ FE

-- the body at 2 touches array 0 by a call, and array 1 not; its walk stops at the RETURN before the CLR; 2 goes to 4 before its continuation. An ON GOSUB on the way to the RETURN
-- does not make array 0 sure
abbrev pub nested_touched : List ℕ
nested_touched =
    FH 7 2 0 0
    ++ gosub 10 30 1 (2 ∷ []) []
    ++ other 20 [] []
    ++ on_gosub 30 (50 ∷ []) 3 (4 ∷ []) []
    ++ returns 40 (6 ∷ [])
    ++ other 50 (5 ∷ 3 ∷ []) (0 ∷ [])
    ++ returns 60 []
    ++ clr 70 [] []
    ++ FL 30 2 ++ FL 50 4
    ++ FE

-- lines in listed order, one twice and one that enters nothing; successor 4 is neither entered nor the continuation
abbrev pub many_lines : List ℕ
many_lines =
    FH 6 1 0 0
    ++ on_gosub 10 (40 ∷ 30 ∷ 40 ∷ 99 ∷ []) 1 (2 ∷ 3 ∷ 1 ∷ 4 ∷ []) []
    ++ other 20 [] []
    ++ other 30 (3 ∷ []) (0 ∷ [])
    ++ other 40 (5 ∷ []) []
    ++ other 50 [] []
    ++ returns 60 []
    ++ FL 30 2 ++ FL 40 3
    ++ FE

-- the RETURN goes to the continuations 1 and 2, rising
abbrev pub two_continuations : List ℕ
two_continuations =
    FH 5 1 0 0
    ++ gosub 10 40 1 (3 ∷ []) []
    ++ gosub 20 40 2 (3 ∷ 2 ∷ []) (0 ∷ [])
    ++ other 30 [] []
    ++ clr 40 (4 ∷ []) []
    ++ returns 50 []
    ++ FL 40 3
    ++ FE

-- name 0 is written at 0, read and written at 1, read at 2; name 1 is read at 1 and 3, written at 2, which loops
abbrev pub two_names : List ℕ
two_names =
    FH 4 0 2 0
    ++ FN 10 0 (1 ∷ []) [] 1 0
    ++ FN 20 0 (2 ∷ 0 ∷ []) [] 1 3
    ++ FN 30 0 (2 ∷ []) [] 2 1
    ++ FN 40 0 (1 ∷ []) [] 0 2
    ++ FE

-- Request E1: bit x of a word is name x

-- with the names that it writes and those that it reads
abbrev pub uses : ℕ → List ℕ → ℕ → ℕ → List ℕ
uses l ss ws rs = FN l 0 ss [] ws rs

-- statement 1 reads and writes both names; 0 writes name 1 before
abbrev pub reader_writes : List ℕ
reader_writes = FH 2 0 2 0 ++ uses 10 (1 ∷ []) 2 0 ++ uses 20 [] 3 3 ++ FE

-- so does the entry, which goes to itself: only its first visit is without a write
abbrev pub entry_writes : List ℕ
entry_writes = FH 1 0 1 0 ++ uses 10 (0 ∷ []) 1 1 ++ FE

-- nothing reaches statement 2, which reads name 0 and alone writes name 1
abbrev pub unreached : List ℕ
unreached = FH 3 0 2 0 ++ uses 10 (1 ∷ []) 1 0 ++ uses 20 [] 0 1 ++ uses 30 (1 ∷ []) 2 1 ++ FE

-- in the loop, 2 writes name 0 after 1 reads it; name 1 is written before the loop
abbrev pub written_later : List ℕ
written_later = FH 3 0 2 0 ++ uses 10 (1 ∷ []) 2 0 ++ uses 20 (2 ∷ []) 0 3 ++ uses 30 (1 ∷ []) 1 0 ++ FE

-- name 0 is written on one of two branches, name 1 on both; name 2 is written and not read, name 3 read and not written, name 4 neither
abbrev pub branches : List ℕ
branches =
    FH 4 0 5 0
    ++ uses 10 (1 ∷ 2 ∷ []) 0 0
    ++ uses 20 (3 ∷ []) 3 0
    ++ uses 30 (3 ∷ []) 2 0
    ++ uses 40 [] 4 11
    ++ FE

-- the entry is statement 1 of a loop: 0 writes name 0 before 1 reads it in the file, and after it on the walk; name 1 is the other way round
abbrev pub entry_in_loop : List ℕ
entry_in_loop = FH 3 0 2 1 ++ uses 10 (1 ∷ []) 1 2 ++ uses 20 (2 ∷ []) 0 1 ++ uses 30 (0 ∷ []) 2 0 ++ FE

-- the call writes the name that its continuation reads, and the RETURN goes on to these: only a listed walk counts, and a CLR on it takes no name away
abbrev pub call_writes : List ℕ → List ℕ
call_writes ss =
    FH 4 0 1 0
    ++ FN 10 5 (2 ∷ []) [] 1 0 ++ u16s (30 ∷ 1 ∷ [])
    ++ uses 20 [] 0 1
    ++ clr 30 (3 ∷ []) []
    ++ returns 40 ss
    ++ FL 30 2
    ++ FE

-- Request E2

-- 0 is GOSUB 30, continuation 1, successor 2, where the body begins
abbrev pub set_up : ℕ → ℕ → List ℕ → List ℕ → List ℕ
set_up n arrays body lines =
    FH n arrays 0 0
    ++ gosub 10 30 1 (2 ∷ []) []
    ++ other 20 [] []
    ++ body
    ++ FL 30 2 ++ lines
    ++ FE

-- the body calls one that calls one that refers to the array
abbrev pub sure_nested : List ℕ
sure_nested =
    set_up 8 1
    (gosub 30 50 3 (4 ∷ []) []
    ++ returns 40 []
    ++ gosub 50 70 5 (6 ∷ []) []
    ++ returns 60 []
    ++ other 70 (7 ∷ []) (0 ∷ [])
    ++ returns 80 [])
    (FL 50 4 ++ FL 70 6)

-- the body goes round before its RETURN
abbrev pub sure_loop : List ℕ
sure_loop = set_up 5 1 (other 30 (2 ∷ 3 ∷ []) [] ++ other 40 (2 ∷ 4 ∷ []) (0 ∷ []) ++ returns 50 []) []

-- both RETURNs come after a reference to array 1, one of them after a reference to array 0
abbrev pub two_returns : List ℕ
two_returns =
    set_up 6 2
    (other 30 (3 ∷ 4 ∷ []) (1 ∷ [])
    ++ other 40 (5 ∷ []) (0 ∷ [])
    ++ returns 50 []
    ++ returns 60 [])
    []

-- the body has no RETURN
abbrev pub never_returns : List ℕ
never_returns = set_up 3 1 (other 30 (2 ∷ []) (0 ∷ [])) []

-- P5 with a line that enters nothing
abbrev pub enters_nothing : List ℕ
enters_nothing = p5_from 0 (gosub 10 99 1 (2 ∷ []) []) (other 30 (3 ∷ []) (0 ∷ []))

-- a walk ends at statement 4, with no reference and no RETURN
abbrev pub ends_elsewhere : List ℕ
ends_elsewhere =
    set_up 6 1
    (other 30 (3 ∷ 4 ∷ []) []
    ++ other 40 (5 ∷ []) (0 ∷ [])
    ++ other 50 [] []
    ++ returns 60 [])
    []

-- the body calls one that refers to array 0 and has no RETURN: the walk passes it by, to a reference to array 1
abbrev pub passed_by : List ℕ
passed_by =
    set_up 6 2
    (gosub 30 60 3 (5 ∷ []) []
    ++ other 40 (4 ∷ []) (1 ∷ [])
    ++ returns 50 []
    ++ other 60 (5 ∷ []) (0 ∷ []))
    (FL 60 5)

-- the body's GOSUB has no continuation: the walk goes on to its successors, of which one refers to array 0 and both to array 1
abbrev pub ordinary_inside : List ℕ
ordinary_inside =
    set_up 6 2
    (gosub 30 50 no_continuation (3 ∷ 4 ∷ []) []
    ++ other 40 (5 ∷ []) (1 ∷ [])
    ++ other 50 (5 ∷ []) (0 ∷ 1 ∷ [])
    ++ returns 60 [])
    (FL 50 4)

-- statement 1 enters its own continuation in base 0, where that edge is no edge to an entered statement: NONE comes to statement 3 by 5 only, after AUTO, and 4 is visited once more
abbrev pub continuation_entered : List ℕ
continuation_entered =
    FH 6 1 0 0
    ++ other 10 (1 ∷ 2 ∷ []) []
    ++ gosub 20 40 3 (3 ∷ []) []
    ++ other 30 (5 ∷ []) []
    ++ other 40 (4 ∷ []) (0 ∷ [])
    ++ returns 50 []
    ++ other 60 (3 ∷ []) []
    ++ FL 40 3
    ++ FE

-- Request E3

-- the file with a key: its record stands right before FE, which has two bytes
abbrev pub with_key : ℕ → List ℕ → List ℕ
with_key handler s = take (length s - 2) s ++ FK handler ++ FE

-- the entry refers to the array and goes to itself; 1 is a RETURN. The key's edge takes NONE to it, and comes after the self loop
abbrev pub self_reference : List ℕ
self_reference = FH 2 1 0 0 ++ other 10 (0 ∷ []) (0 ∷ []) ++ returns 20 [] ++ FE

-- only the key's edge leaves the RETURN at 1, and takes DIMMED with it
abbrev pub return_out : List ℕ
return_out = FH 3 1 0 0 ++ dim 10 (0 ∷ 1 ∷ []) (1 ∷ []) [] ++ returns 20 [] ++ returns 30 [] ++ FE

-- the same of the RETURN at 5, in base n: a listed successor of the call at 1 that is not on its body's walk leads there
abbrev pub return_in_copy : List ℕ
return_in_copy =
    FH 6 1 0 0
    ++ other 10 [] []
    ++ gosub 20 40 2 (3 ∷ 4 ∷ []) []
    ++ returns 30 []
    ++ returns 40 []
    ++ dim 50 (0 ∷ 1 ∷ []) (5 ∷ []) []
    ++ returns 60 []
    ++ FL 40 3
    ++ FE

-- CLR at the entry, and a handler at 2 that refers to the array: its touched step comes after the CLR
abbrev pub wiped_first : List ℕ
wiped_first = FH 4 1 0 0 ++ clr 10 (1 ∷ []) [] ++ other 20 [] [] ++ other 30 (3 ∷ []) (0 ∷ []) ++ returns 40 [] ++ FE

-- a handler at 2 that calls this body, of two arrays
abbrev pub calling_handler : List ℕ → List ℕ
calling_handler body =
    FH 6 2 0 0
    ++ other 10 (1 ∷ []) []
    ++ other 20 [] []
    ++ gosub 30 50 3 (4 ∷ []) []
    ++ returns 40 []
    ++ body
    ++ returns 60 []
    ++ FL 50 4
    ++ FE

-- Request E5

-- name 0 is read at 1; 0 writes name 1, which nothing reads
abbrev pub dead_store : List ℕ
dead_store = FH 2 0 2 0 ++ uses 10 (1 ∷ []) 2 0 ++ uses 20 [] 0 1 ++ FE

-- name 0 is read for the last time where name 1 is written, and name 1 where name 2 is, which nothing uses with them
abbrev pub handed_over : List ℕ
handed_over = FH 4 0 4 0 ++ uses 10 (1 ∷ []) 1 0 ++ uses 20 (2 ∷ []) 2 1 ++ uses 30 (3 ∷ []) 4 2 ++ uses 40 [] 0 4 ++ FE

-- nothing reaches statement 1, which reads names 0 and 1, nor 2, which writes names 1 and 2
abbrev pub unreached_pairs : List ℕ
unreached_pairs = FH 3 0 3 0 ++ uses 10 [] 0 1 ++ uses 20 [] 0 3 ++ uses 30 [] 6 0 ++ FE

-- three names are live in the loop, and two at its start
abbrev pub name_loop : List ℕ
name_loop = FH 4 0 4 0 ++ uses 10 (1 ∷ []) 1 0 ++ uses 20 (2 ∷ 3 ∷ []) 6 1 ++ uses 30 (1 ∷ []) 0 6 ++ uses 40 [] 8 2 ++ FE

-- Request E6

-- nothing reaches statement 1, which acts on two arrays before it goes to 2
abbrev pub unreached_act : List ℕ → List ℕ
unreached_act act = FH 3 2 0 0 ++ other 10 [] [] ++ act ++ other 30 [] [] ++ FE

-- a proposal for it: the rows of 1 and 2 in base 0
abbrev pub rows_of : ℕ → ℕ → ℕ → ℕ → List ℕ
rows_of a b c d = 1 ∷ 1 ∷ a ∷ b ∷ c ∷ d ∷ replicate 6 0

abbrev pub cases : List Case
cases =
    -- P1 to P4
    step Reference 1 2
    ∷ step Reference 5 6
    ∷ step Reference 4 4
    ∷ step Touched 5 7
    -- P5 to P10
    ∷ accepted p5
    (masks (1 ∷ 2 ∷ 1 ∷ 2 ∷ [])
    ∷ visits 4
    ∷ bound 19
    ∷ live_in (0 ∷ 1 ∷ 0 ∷ 0 ∷ [])
    ∷ live_out (0 ∷ 0 ∷ 0 ∷ 0 ∷ [])
    ∷ certain 0
    ∷ prints
    ("F 4 1 1"
    ∷ "0 10 1 0000000000000000 0000000000000000"
    ∷ "1 20 2 0000000000000001 0000000000000000"
    ∷ "2 30 1 0000000000000000 0000000000000000"
    ∷ "3 40 2 0000000000000000 0000000000000000"
    ∷ [])
    ∷ [])
    ∷ accepted p6 (masks (1 ∷ 4 ∷ 1 ∷ 4 ∷ []) ∷ visits 4 ∷ bound 16 ∷ [])
    ∷ accepted p7 (masks (1 ∷ 1 ∷ 1 ∷ 1 ∷ []) ∷ visits 4 ∷ bound 16 ∷ [])
    ∷ accepted p8 (masks (1 ∷ 1 ∷ 1 ∷ 1 ∷ []) ∷ visits 4 ∷ bound 16 ∷ [])
    ∷ accepted p9 (masks (1 ∷ 0 ∷ []) ∷ visits 2 ∷ bound 10 ∷ [])
    ∷ accepted p10 (masks [] ∷ visits 0 ∷ bound 1 ∷ prints ("F 0 0 0" ∷ []) ∷ areas 0 0 0 0 0 ∷ certain 0 ∷ work 0 0 ∷ [])
    -- Also: 64 arrays accepted, 65 refused 3; entry n-1 accepted, n refused 3; work 64 × n accepted, one word less refused 10
    ∷ accepted (with_arrays 64) (masks (replicate 64 1) ∷ visits 1 ∷ bound 1 ∷ [])
    ∷ refused (with_arrays 65) 3 0 (prints ("R 3 0" ∷ []) ∷ [])
    ∷ accepted (with_entry 3) (masks (0 ∷ 0 ∷ 0 ∷ 1 ∷ []) ∷ visits 1 ∷ bound 19 ∷ [])
    ∷ refused (with_entry 4) 3 0 []
    ∷ accepted p5 (areas 4 4 4 256 0 ∷ areas 4 4 4 255 10 ∷ [])
    -- the listing program's other lines: a refusal with its place, no array, an input that is too long
    ∷ refused (FH 1 0 0 0 ++ FE) 2 8 (prints ("R 2 8" ∷ []) ∷ [])
    ∷ accepted two_names
    (masks []
    ∷ visits 5
    ∷ bound 11
    ∷ live_in (2 ∷ 3 ∷ 1 ∷ 3 ∷ [])
    ∷ live_out (3 ∷ 3 ∷ 1 ∷ 3 ∷ [])
    ∷ certain 1
    ∷ prints
    ("F 4 0 2"
    ∷ "0 10 - 0000000000000002 0000000000000003"
    ∷ "1 20 - 0000000000000003 0000000000000003"
    ∷ "2 30 - 0000000000000001 0000000000000001"
    ∷ "3 40 - 0000000000000003 0000000000000003"
    ∷ [])
    ∷ [])
    ∷ long ("L" ∷ [])
    -- Where a port goes astray
    ∷ accepted dim_flag0 (masks (1 ∷ 2 ∷ 1 ∷ 2 ∷ []) ∷ visits 4 ∷ bound 16 ∷ [])
    ∷ accepted shared_return (masks (1 ∷ 1 ∷ 2 ∷ 1 ∷ 3 ∷ 3 ∷ []) ∷ visits 8 ∷ bound 34 ∷ [])
    ∷ accepted entered_continuation (masks (1 ∷ 1 ∷ 3 ∷ 2 ∷ 2 ∷ []) ∷ visits 5 ∷ bound 28 ∷ sure_arrays (1 ∷ 1 ∷ 0 ∷ 0 ∷ 0 ∷ []) ∷ [])
    ∷ accepted second_visit (masks (1 ∷ 3 ∷ 3 ∷ []) ∷ visits 6 ∷ bound 19 ∷ [])
    ∷ accepted unvisited (masks (1 ∷ 1 ∷ 0 ∷ []) ∷ visits 2 ∷ bound 19 ∷ [])
    -- the rules one by one
    ∷ accepted run_in_body (masks (1 ∷ 1 ∷ 1 ∷ 1 ∷ []) ∷ visits 4 ∷ bound 16 ∷ [])
    ∷ accepted p5_on (masks (1 ∷ 3 ∷ 1 ∷ 2 ∷ []) ∷ visits 4 ∷ bound 19 ∷ [])
    ∷ accepted steps (masks (0 ∷ 0 ∷ 1 ∷ 1 ∷ 2 ∷ 2 ∷ 2 ∷ 4 ∷ 1 ∷ 1 ∷ 2 ∷ 1 ∷ 1 ∷ 1 ∷ 4 ∷ 1 ∷ []) ∷ visits 7 ∷ bound 61 ∷ [])
    ∷ accepted no_items (masks (1 ∷ 3 ∷ 1 ∷ 2 ∷ []) ∷ visits 4 ∷ bound 19 ∷ [])
    ∷ accepted ordinary_call (masks (1 ∷ 3 ∷ 1 ∷ 2 ∷ 0 ∷ []) ∷ visits 4 ∷ bound 19 ∷ [])
    ∷ accepted nested_opaque (masks (1 ∷ 2 ∷ 1 ∷ 1 ∷ 1 ∷ 1 ∷ 2 ∷ []) ∷ visits 7 ∷ bound 31 ∷ [])
    ∷ accepted nested_touched (masks (1 ∷ 1 ∷ 3 ∷ 1 ∷ 1 ∷ 1 ∷ 3 ∷ 1 ∷ 1 ∷ 1 ∷ 2 ∷ 1 ∷ 0 ∷ 0 ∷ []) ∷ visits 6 ∷ bound 61 ∷ [])
    ∷ accepted many_lines (masks (1 ∷ 3 ∷ 1 ∷ 3 ∷ 1 ∷ 3 ∷ []) ∷ visits 8 ∷ bound 37 ∷ [])
    ∷ accepted two_continuations (masks (1 ∷ 1 ∷ 3 ∷ 3 ∷ 1 ∷ []) ∷ visits 7 ∷ bound 31 ∷ [])
    -- request E1
    ∷ accepted reader_writes (certain 2 ∷ [])
    ∷ accepted entry_writes (certain 0 ∷ [])
    ∷ accepted unreached (certain 2 ∷ [])
    ∷ accepted written_later (certain 2 ∷ [])
    ∷ accepted branches (certain 6 ∷ [])
    ∷ accepted entry_in_loop (certain 2 ∷ [])
    ∷ accepted (call_writes []) (certain 0 ∷ [])
    ∷ accepted (call_writes (1 ∷ [])) (certain 1 ∷ [])
    -- n 0 with 64 names, and one statement that writes the last of them
    ∷ accepted (FH 0 0 64 0 ++ FE) (certain 0 ∷ [])
    ∷ accepted (FH 1 0 64 0 ++ uses 10 [] (2 ^ 63) 0 ++ FE) (certain (2 ^ 63) ∷ [])
    ∷ accepted p5 (work 256 0 ∷ work 255 10 ∷ [])
    -- request E2
    ∷ accepted p5 (sure_arrays (1 ∷ 0 ∷ 0 ∷ 0 ∷ []) ∷ [])
    ∷ accepted p5_on (sure_arrays (0 ∷ 0 ∷ 0 ∷ 0 ∷ []) ∷ [])
    ∷ accepted run_in_body (sure_arrays (0 ∷ 0 ∷ 0 ∷ 0 ∷ []) ∷ [])
    ∷ accepted nested_touched (sure_arrays (0 ∷ 0 ∷ 0 ∷ 0 ∷ 0 ∷ 0 ∷ 0 ∷ []) ∷ [])
    ∷ accepted sure_nested (masks (1 ∷ 2 ∷ 1 ∷ 2 ∷ 1 ∷ 2 ∷ 1 ∷ 2 ∷ []) ∷ visits 8 ∷ bound 43 ∷ sure_arrays (1 ∷ 0 ∷ 1 ∷ 0 ∷ 1 ∷ 0 ∷ 0 ∷ 0 ∷ []) ∷ [])
    ∷ accepted sure_loop (masks (1 ∷ 2 ∷ 3 ∷ 3 ∷ 2 ∷ []) ∷ visits 11 ∷ bound 37 ∷ sure_arrays (1 ∷ 0 ∷ 0 ∷ 0 ∷ 0 ∷ []) ∷ [])
    ∷ accepted two_returns (masks (1 ∷ 1 ∷ 3 ∷ 2 ∷ 1 ∷ 1 ∷ 1 ∷ 2 ∷ 1 ∷ 2 ∷ 2 ∷ 2 ∷ []) ∷ visits 6 ∷ bound 51 ∷ sure_arrays (2 ∷ 0 ∷ 0 ∷ 0 ∷ 0 ∷ 0 ∷ []) ∷ [])
    ∷ accepted never_returns (masks (1 ∷ 3 ∷ 3 ∷ []) ∷ visits 5 ∷ bound 19 ∷ sure_arrays (0 ∷ 0 ∷ 0 ∷ []) ∷ [])
    ∷ accepted enters_nothing (masks (1 ∷ 1 ∷ 1 ∷ 2 ∷ []) ∷ visits 4 ∷ bound 19 ∷ sure_arrays (0 ∷ 0 ∷ 0 ∷ 0 ∷ []) ∷ [])
    ∷ accepted ends_elsewhere (masks (1 ∷ 2 ∷ 1 ∷ 1 ∷ 1 ∷ 2 ∷ []) ∷ visits 6 ∷ bound 31 ∷ sure_arrays (1 ∷ 0 ∷ 0 ∷ 0 ∷ 0 ∷ 0 ∷ []) ∷ [])
    ∷ accepted passed_by (masks (1 ∷ 1 ∷ 3 ∷ 2 ∷ 1 ∷ 1 ∷ 3 ∷ 1 ∷ 3 ∷ 2 ∷ 3 ∷ 1 ∷ []) ∷ visits 8 ∷ bound 61 ∷ sure_arrays (2 ∷ 0 ∷ 0 ∷ 0 ∷ 0 ∷ 0 ∷ []) ∷ [])
    ∷ accepted ordinary_inside (masks (1 ∷ 1 ∷ 3 ∷ 2 ∷ 1 ∷ 1 ∷ 1 ∷ 1 ∷ 1 ∷ 1 ∷ 3 ∷ 2 ∷ []) ∷ visits 6 ∷ bound 61 ∷ sure_arrays (2 ∷ 0 ∷ 0 ∷ 0 ∷ 0 ∷ 0 ∷ []) ∷ [])
    ∷ accepted continuation_entered (masks (1 ∷ 1 ∷ 1 ∷ 3 ∷ 2 ∷ 1 ∷ []) ∷ visits 10 ∷ bound 40 ∷ sure_arrays (0 ∷ 1 ∷ 0 ∷ 0 ∷ 0 ∷ 0 ∷ []) ∷ [])
    -- request E3: P5 with the subroutine as handler, then with its RETURN; with the ON GOSUB
    ∷ accepted (with_key 2 p5)
    (masks (3 ∷ 2 ∷ 3 ∷ 2 ∷ []) ∷ visits 5 ∷ bound 43 ∷ sure_arrays (1 ∷ 0 ∷ 0 ∷ 0 ∷ []) ∷ live_in (0 ∷ 1 ∷ 0 ∷ 0 ∷ []) ∷ live_out (0 ∷ 0 ∷ 0 ∷ 0 ∷ []) ∷ [])
    ∷ accepted (with_key 3 p5) (masks (1 ∷ 2 ∷ 1 ∷ 3 ∷ []) ∷ visits 5 ∷ bound 43 ∷ [])
    ∷ accepted (with_key 2 p5_on) (masks (3 ∷ 3 ∷ 3 ∷ 2 ∷ []) ∷ visits 5 ∷ bound 43 ∷ [])
    -- the RETURN of an opaque body is the handler, and goes back from base 0 only
    ∷ accepted (with_key 3 p6) (masks (1 ∷ 4 ∷ 1 ∷ 5 ∷ []) ∷ visits 7 ∷ bound 40 ∷ [])
    ∷ accepted self_reference (masks (3 ∷ 0 ∷ []) ∷ visits 3 ∷ bound 7 ∷ [])
    ∷ accepted (with_key 1 self_reference) (masks (3 ∷ 3 ∷ []) ∷ visits 5 ∷ bound 19 ∷ [])
    ∷ accepted (with_key 2 return_out) (masks (1 ∷ 4 ∷ 5 ∷ []) ∷ visits 4 ∷ bound 25 ∷ [])
    ∷ accepted (with_key 1 return_in_copy) (masks (1 ∷ 5 ∷ 5 ∷ 5 ∷ 5 ∷ 4 ∷ []) ∷ visits 13 ∷ bound 61 ∷ [])
    ∷ accepted (with_key 2 wiped_first) (masks (3 ∷ 3 ∷ 3 ∷ 2 ∷ []) ∷ visits 5 ∷ bound 37 ∷ [])
    ∷ accepted (with_key 2 (calling_handler (other 50 (5 ∷ []) (1 ∷ []))))
    (masks (1 ∷ 3 ∷ 1 ∷ 3 ∷ 1 ∷ 3 ∷ 1 ∷ 2 ∷ 1 ∷ 3 ∷ 1 ∷ 2 ∷ []) ∷ visits 8 ∷ bound 101 ∷ [])
    -- opaque handlers: by CLR, by a DIM that nothing reaches, by a cycle of calls, by a body that it calls
    ∷ accepted (with_key 2 p8) (masks (replicate 4 7) ∷ visits 0 ∷ live_in (0 ∷ 1 ∷ 0 ∷ 0 ∷ []) ∷ [])
    ∷ accepted (with_key 2 unvisited) (masks (replicate 3 7) ∷ visits 0 ∷ [])
    ∷ accepted (with_key 0 p9) (masks (replicate 2 7) ∷ visits 0 ∷ [])
    ∷ accepted (with_key 2 (calling_handler (run 50 (5 ∷ []) (1 ∷ [])))) (masks (replicate 12 7) ∷ visits 0 ∷ [])
    -- no certain names, and live sets as without a key
    ∷ accepted (with_key 3 two_names) (visits 13 ∷ bound 19 ∷ live_in (2 ∷ 3 ∷ 1 ∷ 3 ∷ []) ∷ live_out (3 ∷ 3 ∷ 1 ∷ 3 ∷ []) ∷ certain 0 ∷ [])
    -- a handler that is no statement
    ∷ refused (with_key 4 p5) 5 134 (prints ("R 5 134" ∷ []) ∷ [])
    ∷ refused (with_key 0 p10) 5 8 []
    -- request E5: no pair in P5, whose one name is read
    ∷ accepted p5 (interference (0 ∷ []) ∷ at_once 1 ∷ rows 1 256 0 ∷ rows 0 256 10 ∷ rows 1 255 10 ∷ rows 2 257 0 ∷ [])
    ∷ accepted p10 (interference [] ∷ at_once 0 ∷ rows 0 0 0 ∷ [])
    ∷ accepted two_names (interference (2 ∷ 1 ∷ []) ∷ at_once 2 ∷ [])
    -- a pair by a write alone, by two writes of one statement, at a start alone, and none where one name's last use is another's first
    ∷ accepted dead_store (live_in (1 ∷ 1 ∷ []) ∷ live_out (1 ∷ 0 ∷ []) ∷ interference (2 ∷ 1 ∷ []) ∷ at_once 1 ∷ [])
    ∷ accepted (FH 1 0 2 0 ++ uses 10 [] 3 0 ++ FE) (interference (2 ∷ 1 ∷ []) ∷ at_once 0 ∷ [])
    ∷ accepted (FH 1 0 2 0 ++ uses 10 [] 0 3 ++ FE) (interference (2 ∷ 1 ∷ []) ∷ at_once 2 ∷ [])
    ∷ accepted handed_over (interference (0 ∷ 0 ∷ 0 ∷ 0 ∷ []) ∷ at_once 1 ∷ [])
    ∷ accepted unreached_pairs (interference (2 ∷ 5 ∷ 2 ∷ []) ∷ at_once 2 ∷ [])
    ∷ accepted name_loop (live_in (0 ∷ 1 ∷ 7 ∷ 2 ∷ []) ∷ live_out (1 ∷ 7 ∷ 1 ∷ 0 ∷ []) ∷ interference (6 ∷ 5 ∷ 3 ∷ 0 ∷ []) ∷ at_once 3 ∷ [])
    -- with a handler all names that are used, and no others; the live sets take no notice of it
    ∷ accepted (with_key 3 handed_over) (interference (6 ∷ 5 ∷ 3 ∷ 0 ∷ []) ∷ at_once 1 ∷ [])
    ∷ accepted (with_key 0 (FH 2 0 3 0 ++ uses 10 [] 1 0 ++ uses 20 [] 4 0 ++ FE)) (interference (4 ∷ 0 ∷ 1 ∷ []) ∷ at_once 0 ∷ [])
    ∷ accepted (with_key 0 (FH 2 0 2 0 ++ uses 10 [] 0 1 ++ uses 20 [] 0 2 ++ FE)) (interference (2 ∷ 1 ∷ []) ∷ at_once 1 ∷ [])
    -- n 0 with 64 names; the first and the last of 64
    ∷ accepted (FH 0 0 64 0 ++ FE) (interference (replicate 64 0) ∷ at_once 0 ∷ rows 64 0 0 ∷ rows 63 0 10 ∷ [])
    ∷ accepted (FH 1 0 64 0 ++ uses 10 [] 0 (2 ^ 63 + 1) ++ FE) (interference (2 ^ 63 ∷ replicate 62 0 ++ (1 ∷ [])) ∷ at_once 2 ∷ [])
    -- request E6: our own masks; more than they hold; a state in the other copy; a row that nothing reaches, and one that it reaches then
    ∷ accepted p5
    (own (1 ∷ 2 ∷ 0 ∷ 0 ∷ 0 ∷ 0 ∷ 1 ∷ 2 ∷ [])
    ∷ accepts (replicate 8 7)
    ∷ declines (replicate 8 0)
    ∷ declines (1 ∷ 0 ∷ 0 ∷ 0 ∷ 0 ∷ 2 ∷ 1 ∷ 2 ∷ [])
    ∷ declines (1 ∷ 2 ∷ 2 ∷ 0 ∷ 0 ∷ 0 ∷ 1 ∷ 2 ∷ [])
    ∷ accepts (1 ∷ 2 ∷ 2 ∷ 2 ∷ 0 ∷ 0 ∷ 1 ∷ 2 ∷ [])
    ∷ [])
    -- calls that are opaque and not; the entry is not statement 0, and two arrays
    ∷ accepted shared_return (own (1 ∷ 1 ∷ 2 ∷ 1 ∷ 1 ∷ 1 ∷ 0 ∷ 0 ∷ 0 ∷ 0 ∷ 2 ∷ 2 ∷ []) ∷ accepts (replicate 12 7) ∷ [])
    ∷ accepted steps (own (0 ∷ 0 ∷ 1 ∷ 1 ∷ 2 ∷ 2 ∷ 2 ∷ 4 ∷ 1 ∷ 1 ∷ 2 ∷ 1 ∷ 1 ∷ 1 ∷ 4 ∷ 1 ∷ replicate 16 0) ∷ [])
    -- a row that is all zero is not looked at; in any other DIM makes 0 DIMMED, CLR and RUN make it NONE, and a reference leaves it
    ∷ accepted (unreached_act (dim 20 (1 ∷ 1 ∷ []) (2 ∷ []) [])) (accepts (rows_of 0 0 0 0) ∷ declines (rows_of 2 0 2 0) ∷ declines (rows_of 2 0 0 4) ∷ accepts (rows_of 2 0 2 4) ∷ [])
    ∷ accepted (unreached_act (clr 20 (2 ∷ []) [])) (accepts (rows_of 0 0 0 0) ∷ declines (rows_of 2 0 1 0) ∷ declines (rows_of 2 0 0 1) ∷ accepts (rows_of 2 0 1 1) ∷ [])
    ∷ accepted (unreached_act (run 20 (2 ∷ []) [])) (accepts (rows_of 0 0 0 0) ∷ declines (rows_of 0 4 0 1) ∷ declines (rows_of 0 4 1 0) ∷ accepts (rows_of 0 4 1 1) ∷ [])
    ∷ accepted (unreached_act (other 20 (2 ∷ []) (1 ∷ []))) (accepts (rows_of 2 0 2 0) ∷ declines (rows_of 0 1 0 1) ∷ accepts (rows_of 0 1 0 2) ∷ [])
    -- no array; n 0, without arrays and with one
    ∷ accepted two_names (own [] ∷ accepts [] ∷ proposal [] 256 0 0 ∷ proposal (8 ∷ []) 256 0 0 ∷ [])
    ∷ accepted p10 (own [] ∷ accepts [] ∷ proposal [] 0 0 0 ∷ [])
    ∷ accepted (FH 0 1 0 0 ++ FE) (accepts [] ∷ proposal (9 ∷ []) 0 0 0 ∷ [])
    -- the handler's step at the entry, then on the edges; what leaves by the key alone
    ∷ accepted (with_key 2 p5)
    (own (3 ∷ 2 ∷ 0 ∷ 0 ∷ 0 ∷ 0 ∷ 3 ∷ 2 ∷ []) ∷ declines (1 ∷ 2 ∷ 0 ∷ 0 ∷ 0 ∷ 0 ∷ 3 ∷ 2 ∷ []) ∷ declines (3 ∷ 2 ∷ 0 ∷ 0 ∷ 0 ∷ 0 ∷ 1 ∷ 2 ∷ []) ∷ [])
    ∷ accepted (with_key 2 (calling_handler (other 50 (5 ∷ []) (1 ∷ []))))
    (own (1 ∷ 3 ∷ 1 ∷ 3 ∷ replicate 12 0 ++ (1 ∷ 3 ∷ 1 ∷ 2 ∷ 1 ∷ 3 ∷ 1 ∷ 2 ∷ [])) ∷ accepts (replicate 24 7) ∷ [])
    ∷ accepted (with_key 2 return_out) (own (1 ∷ 4 ∷ 0 ∷ 0 ∷ 0 ∷ 5 ∷ []) ∷ declines (1 ∷ 4 ∷ 0 ∷ 0 ∷ 0 ∷ 1 ∷ []) ∷ declines (1 ∷ 4 ∷ 5 ∷ 0 ∷ 0 ∷ 0 ∷ []) ∷ [])
    -- an opaque handler: 7 everywhere, and no other table, though every edge may be held
    ∷ accepted (with_key 2 p8) (own (replicate 8 7) ∷ declines (replicate 7 7 ++ (1 ∷ [])) ∷ declines (replicate 7 7 ++ (6 ∷ [])) ∷ declines (replicate 8 0) ∷ [])
    ∷ accepted (with_key 2 unvisited) (own (replicate 6 7) ∷ [])
    -- lengths, and bytes over 7: the first of them, and none behind 2 × n × arrays
    ∷ accepted p5
    (proposal (1 ∷ 2 ∷ 0 ∷ 0 ∷ 0 ∷ 0 ∷ 1 ∷ 2 ∷ []) 256 0 0
    ∷ proposal (1 ∷ 2 ∷ 0 ∷ 0 ∷ 0 ∷ 0 ∷ 1 ∷ 2 ∷ []) 255 10 0
    ∷ proposal (1 ∷ 2 ∷ 0 ∷ 0 ∷ 0 ∷ 0 ∷ 1 ∷ []) 256 10 0
    ∷ proposal (1 ∷ 2 ∷ 0 ∷ 8 ∷ 0 ∷ 0 ∷ 1 ∷ []) 256 10 0
    ∷ proposal (1 ∷ 2 ∷ 0 ∷ 8 ∷ 0 ∷ 0 ∷ 1 ∷ 2 ∷ []) 255 10 0
    ∷ proposal (1 ∷ 2 ∷ 0 ∷ 8 ∷ 0 ∷ 0 ∷ 1 ∷ 255 ∷ []) 256 11 3
    ∷ proposal (8 ∷ replicate 7 7) 256 11 0
    ∷ proposal (replicate 7 7 ++ (8 ∷ [])) 256 11 7
    ∷ proposal (replicate 8 7 ++ (8 ∷ [])) 257 0 0
    ∷ accepts (1 ∷ 2 ∷ 0 ∷ 0 ∷ 0 ∷ 0 ∷ 1 ∷ 2 ∷ 8 ∷ [])
    ∷ [])
    ∷ accepted steps (proposal (replicate 32 7) 512 0 0 ∷ proposal (replicate 31 7) 512 10 0 ∷ proposal (replicate 31 7 ++ (8 ∷ [])) 512 11 31 ∷ [])
    ∷ []

-- Whether a case is right

abbrev pub same_list : List ℕ → List ℕ → Bool
same_list [] [] = true
same_list [] (y ∷ ys) = false
same_list (x ∷ xs) [] = false
same_list (x ∷ xs) (y ∷ ys) = eqb x y && same_list xs ys

-- the bytes of a line's text, and of lines that a newline ends
abbrev pub bytes : String → List ℕ
bytes []ˢ = 10 ∷ []
bytes (c ∷ˢ s) = code c ∷ bytes s

abbrev pub masks_of : Flow → List ℕ
masks_of f = concat_map (λ i. map (mask_of f i) (up_to f.arrays)) (up_to (size f))

abbrev pub words_of : Flow → (Flow → ℕ → ℕ) → List ℕ
words_of f w = map (w f) (up_to (size f))

abbrev pub sure_word : Flow → ℕ → ℕ
sure_word f c = sum_below f.arrays (λ a. bit_of (sure f c a) * 2 ^ a)

-- request E6

abbrev pub own_bytes : Flow → List ℕ
own_bytes f = concat_map (λ d. map (own_mask f d) (up_to f.arrays)) (up_to (size f + size f))

abbrev pub accepts_bytes : Flow → List ℕ → Bool
accepts_bytes f bs = is_accepted f (proposed f bs)

-- the byte at j holds the state, and may do without it
abbrev pub spares : Flow → List ℕ → ℕ → State → Bool
spares f bs j s = holds (get_or bs j 0) s && accepts_bytes f (set bs j (get_or bs j 0 - state_mask s))

abbrev pub least_bytes : Flow → List ℕ → Bool
least_bytes f bs = accepts_bytes f bs && not (any (λ j. any (spares f bs j) (State.none ∷ State.auto ∷ State.dimmed ∷ [])) (up_to (length bs)))

abbrev pub fact_holds : Verdict → Flow → Fact → Bool
fact_holds v f (masks ms) = same_list (masks_of f) ms
fact_holds v f (live_in ws) = same_list (words_of f live_in_word) ws
fact_holds v f (live_out ws) = same_list (words_of f live_out_word) ws
fact_holds v f (sure_arrays ws) = same_list (words_of f sure_word) ws
fact_holds v f (visits k) = eqb (visits_of f) k
fact_holds v f (bound k) = eqb (visit_bound (doubled f)) k
fact_holds v f (prints ls) = same_list (listing v f) (concat_map bytes ls)
fact_holds v f (areas m i o w k) = eqb (verdict_number (verdict (area_checks (size f) f.arrays m i o w))) k
fact_holds v f (certain w) = eqb (certain_word f) w
fact_holds v f (work w k) = eqb (verdict_number (verdict (area_check (work_words (size f)) w ∷ []))) k
fact_holds v f (interference ws) = same_list (map (interference_word f) (up_to f.names)) ws
fact_holds v f (at_once k) = eqb (most_live f) k
fact_holds v f (rows r w k) = eqb (verdict_number (verdict (area_check (work_words (size f)) w ∷ area_check f.names r ∷ []))) k
fact_holds v f (own bs) = same_list (own_bytes f) bs && least_bytes f bs
fact_holds v f (accepts bs) = accepts_bytes f bs
fact_holds v f (declines bs) = not (accepts_bytes f bs)
fact_holds v f (proposal bs w k p) = eqb (verdict_number (verdict (proposal_checks f bs w))) k && eqb (verdict_place (verdict (proposal_checks f bs w))) p

abbrev pub facts_hold : Verdict → Flow → List Fact → Bool
facts_hold v f [] = true
facts_hold v f (x ∷ xs) = fact_holds v f x && facts_hold v f xs

-- the verdict's number and place, 0 and 0 where the file is accepted, and the facts
abbrev pub judged_so : Verdict → ℕ → ℕ → Flow → List Fact → Bool
judged_so v k p f xs = eqb (verdict_number v) k && (eqb (verdict_place v) p && facts_hold v f xs)

abbrev pub right : Case → Bool
right (step e m r) = eqb (step_of e m) r
right (accepted s xs) = judged_so (verdict (file_checks s)) 0 0 (flow_of s) xs
right (refused s k p xs) = judged_so (verdict (file_checks s)) k p (flow_of s) xs
right (long ls) = same_list long_text (concat_map bytes ls)

abbrev pub all_right : List Case → Bool
all_right [] = true
all_right (c ∷ cs) = right c && all_right cs
