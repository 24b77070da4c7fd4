-- Runs exist: in P5 one goes through the subroutine and finds AUTO at statement 1, in P6 DIMMED; CLR and RUN leave an empty stack; an ON GOSUB is entered and passed over; P5 keeps
-- the premise on listed successors; and with a handler a key calls it before the entry, in the subroutine, and again, but never within it, nor after a CLR in it. Each is the run itself,
-- move by move, over the flow that the table's file stands for; the checker computes the reading, the states and the stack.
use Prim.Native.Nat.{ℕ, zero, suc, ◌+◌, ◌≤◌}
use mathlib.Core.Bool.{Bool, true, false}
use mathlib.Core.List.Memᴰ
use mathlib.Core.List.{List, [], ◌∷◌, map}
use mathlib.Core.Option.{Option, none, some}
use mathlib.Core.Path.{◌≡◌, refl, ap}
use lib.Dec.{lit<}
use native.Mathlib.Omega.{arith}
use Rattle.masks.specs.State.{State}
use Rattle.flow.specs.Flow.{Flow, Kind, Statement, Item, first_of}
use Rattle.flow.specs.Format.{le_at, tabulate, count_lines, record_end, record_place, kind_of, statement_at, flow_of}
use Rattle.theory.specs.Lists.{In, any, elem, concat_map, option_list}
use Rattle.theory.specs.Body.{kind, successors, entered, is_return}
use Rattle.theory.specs.Doubled.{kind_effects, statement_effects}
use Rattle.theory.specs.Runs.{Frame, frame_of, Config, config, become_all, act, Move, Run, Listed}
use Rattle.theory.specs.Cases as C
use Rattle.theory.proofs.Lists.{clash as not_both}

-- The flows of P5 and its kin

abbrev stmt : ℕ → Kind → List ℕ → List ℕ → ℕ → Statement
stmt l k ss rs r = record { line = l; kind = k; successors = ss; references = rs; written = 0; read = r }

abbrev item : ℕ → ℕ → Item
item a g = record { array = a; flag = g }

-- P5 with another call and its successors, another statement 2 and its references, and a handler
abbrev p5_from : Kind → List ℕ → Kind → List ℕ → Option ℕ → Flow
p5_from c ss k rs h = record {
  arrays = 1;
  names = 1;
  entry = 0;
  statements =
      stmt 10 c ss [] 0
      ∷ stmt 20 Kind.other [] (0 ∷ []) 1
      ∷ stmt 30 k (3 ∷ []) rs 0
      ∷ stmt 40 Kind.return [] [] 0
      ∷ [];
  lines =
      record { number = 10; first = 0 } ∷ record { number = 20; first = 1 } ∷ record { number = 30; first = 2 }
      ∷ record { number = 40; first = 3 } ∷ [];
  handler = h;
}

abbrev p5_with : Kind → List ℕ → Option ℕ → Flow
p5_with k rs h = p5_from (Kind.gosub 30 (some 1)) (2 ∷ []) k rs h

abbrev p5 : Flow
p5 = p5_with Kind.other (0 ∷ []) none

abbrev p5_on : Flow
p5_on = p5_from (Kind.on_gosub (30 ∷ []) (some 1)) (2 ∷ 1 ∷ []) Kind.other (0 ∷ []) none

abbrev p6 : Flow
p6 = p5_with (Kind.dim (item 0 1 ∷ [])) [] none

abbrev p8 : Flow
p8 = p5_with Kind.clr [] none

abbrev run_in_body : Flow
run_in_body = p5_with Kind.run (0 ∷ []) none

-- with the subroutine as handler

abbrev p5_key : Flow
p5_key = p5_with Kind.other (0 ∷ []) (some 2)

abbrev p8_key : Flow
p8_key = p5_with Kind.clr [] (some 2)

-- they are what the files of the table stand for
pub files_read :
    map flow_of (C.p5 ∷ C.p5_on ∷ C.p6 ∷ C.p8 ∷ C.run_in_body ∷ C.with_key 2 C.p5 ∷ C.with_key 2 C.p8 ∷ []) ≡ (p5 ∷ p5_on ∷ p6 ∷ p8 ∷ run_in_body ∷ p5_key ∷ p8_key ∷ [])
unfolding le_at tabulate count_lines record_end record_place kind_of statement_at flow_of
files_read = refl

-- GOSUB 30 in P5 and its kin
call-run : (k : Kind) (rs : List ℕ) (h : Option ℕ) → Run (p5_with k rs h) (config 2 (λ a. State.none) (Frame.back 1 ∷ []) true)
unfolding entered concat_map option_list first_of act become_all statement_effects kind_effects elem
call-run k rs h = Run.move (Run.start (lit< tt)) (Move.gosub refl (Memᴰ.head refl))

-- a reference, and RETURN to statement 1
pub p5-run : (s : ℕ → State) × Run p5 (config 1 s [] true) × (s 0 ≡ State.auto)
unfolding act become_all statement_effects kind_effects elem
p5-run = (_, Run.move (Run.move (call-run Kind.other (0 ∷ []) none) (Move.next refl (Memᴰ.head refl))) (Move.return refl), refl)

-- a DIM, and RETURN
pub p6-run : (s : ℕ → State) × Run p6 (config 1 s [] true) × (s 0 ≡ State.dimmed)
unfolding act become_all statement_effects kind_effects elem any
p6-run = (_, Run.move (Run.move (call-run (Kind.dim (item 0 1 ∷ [])) [] none) (Move.next refl (Memᴰ.head refl))) (Move.return refl), refl)

-- ON GOSUB 30, a reference, and RETURN
pub on-run : (s : ℕ → State) × Run p5_on (config 1 s [] true) × (s 0 ≡ State.auto)
unfolding entered concat_map option_list first_of act become_all statement_effects kind_effects elem
on-run = (
  _,
  Run.move
      (Run.move (Run.move (Run.start (lit< tt)) (Move.on_gosub refl (Memᴰ.head refl))) (Move.next refl (Memᴰ.head refl)))
      (Move.return refl),
  refl,
)

clash : ◌≡◌ {A = ℕ} 0 1 → ⊥
clash h = omega arith

-- P5 keeps the premise, so term 3 speaks of this run
pub p5_listed : Listed p5
unfolding entered concat_map option_list first_of
p5_listed = record { enters = entering; after = passing }
  where
    entering : (i e : ℕ) → In e (entered p5 i) → In e (successors p5 i)
    entering zero e m = m
    entering (suc zero) e m = m
    entering (suc (suc zero)) e m = absurd (Memᴰ.not-nil m)
    entering (suc (suc (suc zero))) e m = m
    entering (suc (suc (suc (suc i)))) e m = m

    passing : (i j : ℕ) (ls : List ℕ) → kind p5 i ≡ Kind.on_gosub ls (some j) → In j (successors p5 i)
    passing zero j ls h = absurd (clash (cc))
    passing (suc zero) j ls h = absurd (clash (cc))
    passing (suc (suc zero)) j ls h = absurd (clash (cc))
    passing (suc (suc (suc zero))) j ls h = absurd (clash (cc))
    passing (suc (suc (suc (suc i)))) j ls h = absurd (clash (cc))

-- ON GOSUB passed over: statement 1 is found with NONE
pub skip-run : (s : ℕ → State) × Run p5_on (config 1 s [] true) × (s 0 ≡ State.none)
unfolding act become_all statement_effects kind_effects elem
skip-run = (_, Run.move (Run.start (lit< tt)) (Move.skip refl), refl)

-- CLR and RUN in the subroutine empty the stack

pub p8-run : (s : ℕ → State) × Run p8 (config 3 s [] true)
p8-run = (_, Run.move (call-run Kind.clr [] none) (Move.reset refl (Memᴰ.head refl)))

pub run-run : (s : ℕ → State) × Run run_in_body (config 3 s [] true)
run-run = (_, Run.move (call-run Kind.run (0 ∷ []) none) (Move.reset refl (Memᴰ.head refl)))

-- and RETURN then ends the run
pub p8-ends : {s : ℕ → State} {y : Config} → Move p8 (config 3 s [] true) y → ⊥
p8-ends (Move.next h m) = clash (cc)
p8-ends (Move.reset h m) = clash (cc)
p8-ends (Move.gosub h m) = clash (cc)
p8-ends (Move.on_gosub h m) = clash (cc)
p8-ends (Move.skip h) = clash (cc)
p8-ends (Move.press h) = clash (cc)

-- Request E3

-- the handler of P5 from any statement on: it refers to the array, and its RETURN goes back to the statement before which the key came, which has not acted
pressed : {i : ℕ} {s : ℕ → State} {k : List Frame} → Run p5_key (config i s k true) → Run p5_key (config i (act p5_key 3 (act p5_key 2 s)) k true)
pressed r = Run.move (Run.move (Run.move r (Move.press refl)) (Move.next refl (Memᴰ.head refl))) (Move.resume refl)

-- a key before the entry, which is found with AUTO; another counts after the RETURN
pub key-run : (s : ℕ → State) × Run p5_key (config 0 s [] true) × (s 0 ≡ State.auto)
unfolding act become_all statement_effects kind_effects elem
key-run = (_, pressed (Run.start (lit< tt)), refl)

pub again-run : (s : ℕ → State) × Run p5_key (config 0 s [] true)
again-run = (_, pressed (pressed (Run.start (lit< tt))))

-- a key in the subroutine, which goes on as it was called
pub inside_run : (s : ℕ → State) × Run p5_key (config 2 s (Frame.back 1 ∷ []) true) × (s 0 ≡ State.auto)
unfolding act become_all statement_effects kind_effects elem
inside_run = (_, pressed (call-run Kind.other (0 ∷ []) (some 2)), refl)

-- a CLR in the handler takes the key's frame too, and the run goes on
pub p8-key-run : (s : ℕ → State) × Run p8_key (config 3 s [] false)
p8-key-run = (_, Run.move (Run.move (Run.start (lit< tt)) (Move.press refl)) (Move.reset refl (Memᴰ.head refl)))

-- no RETURN matches then, and no key counts any more
pub p8-key-ends : {s : ℕ → State} {y : Config} → Move p8_key (config 3 s [] false) y → ⊥
p8-key-ends (Move.next h m) = not_both false h refl
p8-key-ends (Move.reset h m) = not_both false h refl
p8-key-ends (Move.gosub h m) = not_both true refl (ap is_return h)
p8-key-ends (Move.on_gosub h m) = not_both true refl (ap is_return h)
p8-key-ends (Move.skip h) = not_both true refl (ap is_return h)

-- how many keys' frames the stack has, and whether a key counts as a number

abbrev keys : List Frame → ℕ
keys [] = 0
keys (Frame.back j ∷ k) = keys k
keys (Frame.end ∷ k) = keys k
keys (Frame.key j ∷ k) = suc (keys k)

abbrev counted : Bool → ℕ
counted true = 1
counted false = 0

keys-pushed : (c : Option ℕ) (k : List Frame) → keys (frame_of c ∷ k) ≡ keys k
keys-pushed none k = refl
keys-pushed (some j) k = refl

-- in every flow and on every run, a key counts or one key's frame is on the stack, never both: a key in the handler does nothing
pub one_key : {f : Flow} {x : Config} → Run f x → keys x.stack + counted x.counts ≤ 1
one_key (Run.start h) = omega arith
one_key {f} (Run.move r m) = go m (one_key r)
  where
    go : {x y : Config} → Move f x y → keys x.stack + counted x.counts ≤ 1 → keys y.stack + counted y.counts ≤ 1
    go (Move.next h m) l = l
    go (Move.reset h m) l = omega arith
    go (Move.gosub {c = c} {k = k} h m) l = rw (keys-pushed c k) l
    go (Move.on_gosub {c = c} {k = k} h m) l = rw (keys-pushed c k) l
    go (Move.skip h) l = l
    go (Move.return h) l = l
    go (Move.press h) l = omega arith
    go (Move.resume h) l = omega arith
