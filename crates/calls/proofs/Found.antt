-- The slots from one on, by the list that they are made from: the edge in the first of them, and those behind it. The slots of a RETURN are the members of its row.
-- By the list that the slots are made from.
use Prim.Native.Nat.{ℕ, zero, suc, ◌+◌, ◌-◌, ◌≤◌, ◌<◌}
use mathlib.Core.Bool.{Bool, true, false, cond, ◌||◌, or_comm}
use mathlib.Core.List.{List, [], ◌∷◌, ◌++◌, map}
use mathlib.Core.Option.{Option, none, some}
use mathlib.Core.Path.{◌≡◌, refl, sym, ◌∙◌, ap}
use native.Mathlib.Decide.{dec_lt}
use native.Mathlib.Numerals.{add-one}
use native.Mathlib.Omega.{arith}
use borrow.Author.Tests.{eq-eqb, ne_eqb, eqb-true}
use lib.Dec.{eqb}
use lib.ListN.{length, get_or, drop, length-map, get_or-append, get_or-map, drop_of_length-le}
use lib.Seq.{drop-cons, get_or_at}
use Rattle.words.specs.Clauses.Row as row
use Rattle.flow.specs.declared.Base.{Base}
use Rattle.flow.specs.declared.Base.TheVariants.{Zero, N}
use Rattle.flow.specs.Flow.{Flow, size}
use Rattle.theory.specs.Lists.{any, elem, concat_map, option_list, up_to}
use Rattle.theory.specs.Body.{kind, successors, call_lines, entered}
use Rattle.theory.specs.Doubled.{Edge, at, plain, number_in, same_node, returns_to}
use Rattle.theory.proofs.Lists.{same_test, or-second, says_one, length-up_to}
use Rattle.calls.specs.Clauses.Slots.{line_slot, line_slots, other_slot, other_slots, return_slots, listed_slots, present}
use Rattle.calls.specs.Clauses.Class.{CallOf}
use Rattle.calls.specs.declared.edges.Call.{Call}

-- the edges in the slots from c on
abbrev pub left_from : ℕ → List (Option Edge) → List Edge
left_from c xs = present (drop c xs)

-- slots made from a list, one from each element
module _ {A : Type 0} (g : A → Option Edge) (l : List A) (d : A) (c : ℕ) where
  mapped : c < length l → left_from c (map g l) ≡ option_list (g (get_or l c d)) ++ left_from (c + 1) (map g l)
  unfolding present concat_map
  mapped h =
      let fits : c < length (map g l) = omega (arith, length-map l g) in
      ap present (drop-cons (map g l) c (g d) fits)
      ∙ ap (λ x. present (x ∷ drop (suc c) (map g l))) (get_or-map g l c d)
      ∙ ap (λ (k : ℕ). present (g (get_or l c d) ∷ drop k (map g l))) (sym (add-one c))

  here : c < length l → {x : Edge} → g (get_or l c d) ≡ some x → left_from c (map g l) ≡ x ∷ left_from (c + 1) (map g l)
  unfolding option_list
  here h e = mapped h ∙ ap (λ (o : Option Edge). option_list o ++ left_from (c + 1) (map g l)) e

  skip : c < length l → g (get_or l c d) ≡ none → left_from c (map g l) ≡ left_from (c + 1) (map g l)
  unfolding option_list
  skip h e = mapped h ∙ ap (λ (o : Option Edge). option_list o ++ left_from (c + 1) (map g l)) e

  past : length l ≤ c → left_from c (map g l) ≡ []
  unfolding present concat_map
  past h = let all : length (map g l) ≤ c = omega (arith, length-map l g) in ap present (drop_of_length-le (map g l) all)

module _ (f : Flow) (b : Base) (i c : ℕ) where
  pub listed_here : c < length (successors f i) → left_from c (listed_slots f b i) ≡ plain (at b (get_or (successors f i) c 0)) ∷ left_from (c + 1) (listed_slots f b i)
  unfolding listed_slots
  listed_here h = here (λ j. some (plain (at b j))) (successors f i) 0 c h refl

  pub listed_end : length (successors f i) ≤ c → left_from c (listed_slots f b i) ≡ []
  unfolding listed_slots
  listed_end h = past (λ j. some (plain (at b j))) (successors f i) 0 c h

-- a call with the continuation k
module _ (f : Flow) (b : Base) (i k c : ℕ) where
  pub line-slot : c < length (call_lines (kind f i)) → left_from c (line_slots f b i k) ≡ option_list (line_slot f b k (get_or (call_lines (kind f i)) c 0)) ++ left_from (c + 1) (line_slots f b i k)
  unfolding line_slots
  line-slot h = mapped (line_slot f b k) (call_lines (kind f i)) 0 c h

  pub line-end : length (call_lines (kind f i)) ≤ c → left_from c (line_slots f b i k) ≡ []
  unfolding line_slots
  line-end h = past (line_slot f b k) (call_lines (kind f i)) 0 c h

  pub other-slot : c < length (successors f i) → left_from c (other_slots f b i k) ≡ option_list (other_slot f b i k (get_or (successors f i) c 0)) ++ left_from (c + 1) (other_slots f b i k)
  unfolding other_slots
  other-slot h = mapped (other_slot f b i k) (successors f i) 0 c h

  pub other-end : length (successors f i) ≤ c → left_from c (other_slots f b i k) ≡ []
  unfolding other_slots
  other-end h = past (other_slot f b i k) (successors f i) 0 c h

-- no other successor is the continuation
pub not_back : (b : Base) (l : Bool) (j k : ℕ) → (l || eqb j k) ≡ false → same_node (at b j) (at b k) ≡ false
not_back Zero l j k e = or-second l (eqb j k) e
not_back N l j k e = or-second l (eqb j k) e

-- a RETURN

get_or-up_to : (n c : ℕ) → c < n → get_or (up_to n) c 0 ≡ c
unfolding up_to
get_or-up_to zero c l = absurd (omega arith)
get_or-up_to (suc n) c l = go (dec_lt c n) (get_or-up_to n c)
  where
    go : Dec (c < n) → (c < n → get_or (up_to n) c 0 ≡ c) → get_or (up_to n ++ (n ∷ [])) c 0 ≡ c
    go (yes h) ih = get_or-append (up_to n) (n ∷ []) 0 c (omega (arith, length-up_to n)) ∙ ih h
    go (no h) ih = let e : c ≡ n = omega (arith, h) in get_or_at (up_to n) n [] 0 c (length-up_to n ∙ sym e) ∙ sym e

module _ (f : Flow) (r : ℕ) where
  slot : ℕ → Option Edge
  slot k = cond (any (returns_to f r k) (up_to (size f))) (some (plain (at Zero k))) none

  at_slot : (c : ℕ) → c < size f → (t : Bool) → any (returns_to f r c) (up_to (size f)) ≡ t → slot (get_or (up_to (size f)) c 0) ≡ cond t (some (plain (at Zero c))) none
  unfolding slot
  at_slot c l t e = ap slot (get_or-up_to (size f) c l) ∙ ap (λ (b : Bool). cond b (some (plain (at Zero c))) none) e

  pub member-here : (c : ℕ) → c < size f → any (returns_to f r c) (up_to (size f)) ≡ true
      → left_from c (return_slots f Zero r) ≡ plain (at Zero c) ∷ left_from (c + 1) (return_slots f Zero r)
  unfolding return_slots slot
  member-here c l e = here slot (up_to (size f)) 0 c (omega (arith, length-up_to (size f))) (at_slot c l true e)

  pub member-end : (c : ℕ) → size f ≤ c → left_from c (return_slots f Zero r) ≡ []
  unfolding return_slots slot
  member-end c l = past slot (up_to (size f)) 0 c (omega (arith, length-up_to (size f)))

  -- those that are no members are passed
  pub member-next : (c d : ℕ) → c ≤ d → d ≤ size f → ((k : ℕ) → c ≤ k → k < d → any (returns_to f r k) (up_to (size f)) ≡ false)
      → left_from c (return_slots f Zero r) ≡ left_from d (return_slots f Zero r)
  unfolding return_slots slot
  member-next c d l m none_of = go (d - c) c (omega arith) none_of
    where
      go : (k c : ℕ) → c + k ≡ d → ((j : ℕ) → c ≤ j → j < d → any (returns_to f r j) (up_to (size f)) ≡ false) → left_from c (map slot (up_to (size f))) ≡ left_from d (map slot (up_to (size f)))
      go zero c e h = let same : c ≡ d = omega arith in ap (λ (j : ℕ). left_from j (map slot (up_to (size f)))) same
      go (suc k) c e h =
          skip slot (up_to (size f)) 0 c (omega (arith, length-up_to (size f))) (at_slot c (omega arith) false (h c (omega arith) (omega arith)))
          ∙ go k (c + 1) (omega arith) (λ j a b. h j (omega arith) b)

-- The doubled numbers of copies, of n statements

-- an entered statement is the continuation when their numbers are one
pub same_number : {n : ℕ} (b : Base) (e k : ℕ) → k < n → eqb (number_in n (at N e)) (number_in n (at b k)) ≡ same_node (at N e) (at b k)
same_number {n} Zero e k l = ne_eqb (n + e) (0 + k) (λ q. omega arith)
same_number {n} N e k l =
    same_test (eqb (n + e) (n + k)) (eqb e k)
    (λ q. let same = eqb-true (n + e) (n + k) q in eq-eqb e k (omega arith))
    (λ q. let same = eqb-true e k q in eq-eqb (n + e) (n + k) (omega arith))

-- what is left out, by the row of the call
pub left-out-is : (f : Flow) (ws : List ℕ) {i : ℕ} {x : Call} (s : ℕ) → CallOf f ws i x → s < size f
    → (eqb s x.continuation.0 || eqb (row.has ws x.row s) 1) ≡ (elem s (entered f i) || eqb s x.continuation.0)
left-out-is f ws {i} {x} s r l =
    let k = x.continuation.0 in
    ap (λ (y : ℕ). eqb s k || eqb y 1) (r.entered s l) ∙ ap (λ (b : Bool). eqb s k || b) (says_one (elem s (entered f i))) ∙ or_comm (eqb s k) (elem s (entered f i))
