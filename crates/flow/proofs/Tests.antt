-- Tests from the facts about the numbers that they compare: rules by which `omega` proves a test, and the cases of an order.
-- By the laws of the single tests, and cases on the first part of a test that is joined of two.
use Prim.Native.Nat.{ℕ, ◌+◌, ◌-◌, ◌≤◌, ◌<◌, min}
use native.Mathlib.Omega.{arith}
use native.Mathlib.Decide.{dec_le}
use mathlib.Core.Bool.{Bool, true, false, ◌&&◌, ◌||◌, true≢false}
use mathlib.Core.List.{List}
use lib.ListN.{length}
use Rattle.flow.specs.Format.{marked, u8_at, letter_f}
use mathlib.Core.Logic.{◌⊎◌, inl, inr}
use native.Mathlib.Nat.{add-sub_cancel}
use native.Mathlib.Numerals.{add-one}
use mathlib.Core.Path.{◌≡◌, refl, sym}
use lib.Dec.{leb, ltb, eqb, leb-zero}
use borrow.Author.Tests.{le-leb, lt-leb, lt-ltb, le-ltb, eq-eqb, ne_eqb, eqb-true, eqb-false, leb-true}

-- A rule of `omega` has one premise: this number is 0 where a is b or m is below n, and only there.
abbrev pub apart : ℕ → ℕ → ℕ → ℕ → ℕ
apart a b m n = min ((a - b) + (b - a)) ((m + 1) - n)

pub or-false : (a b m n : ℕ) → 0 < apart a b m n → (eqb a b || ltb m n) ≡ false
or-false a b m n h = rw (ne_eqb a b differ, le-ltb m n most)
  where
    differ : a ≡ b → ⊥
    differ e = omega arith

    most : n ≤ m
    most = omega arith

pub or-true : (a b m n : ℕ) → apart a b m n ≡ 0 → (eqb a b || ltb m n) ≡ true
or-true a b m n h = go (eqb a b) refl
  where
    go : (t : Bool) → eqb a b ≡ t → (t || ltb m n) ≡ true
    go true e = refl
    go false e = let d = eqb-false a b e in lt-ltb m n (omega arith)

pub ruleset tests = (le-leb, lt-leb, lt-ltb, le-ltb, eq-eqb, ne_eqb, or-false, or-true)

pub lt-or-le : (a b : ℕ) → (a < b) ⊎ (b ≤ a)
lt-or-le a b = go (dec_le b a)
  where
    go : Dec (b ≤ a) → (a < b) ⊎ (b ≤ a)
    go (yes h) = inr h
    go (no h) = inl (omega arith)

-- Rising numbers f 0, f 1, ..: `least` is the smallest number that may stand at k.
pub record Rises (f : ℕ → ℕ) (k least : ℕ) : Type 0 where
  pub follows : (x : ℕ) → (eqb k 0 || ltb (f (k - 1)) x) ≡ leb least x

pub rises_first : (f : ℕ → ℕ) → Rises f 0 0
rises_first f = record { follows = λ x. sym (leb-zero x) }

pub rises_next : (f : ℕ → ℕ) (k v : ℕ) → v ≡ f k → Rises f (k + 1) (v + 1)
rises_next f k v h = record { follows = λ x. rw (ne_eqb (k + 1) 0 (λ z. omega arith), add-sub_cancel k 1, add-one, h) }

and_first : (a b : Bool) → (a && b) ≡ true → a ≡ true
and_first true b e = refl
and_first false b e = e

and_second : (a b : Bool) → (a && b) ≡ true → b ≡ true
and_second true b e = e
and_second false b e = absurd (true≢false (sym e))

-- a mark that stands at q lies within the file
pub marked-within : (s : List ℕ) (q x : ℕ) → marked s q x ≡ true → q + 2 ≤ length s
marked-within s q x h = leb-true (q + 2) (length s) (and_first _ _ h)

-- and its letter is there
pub marked_letter : (s : List ℕ) (q x : ℕ) → marked s q x ≡ true → u8_at s (q + 1) ≡ x
marked_letter s q x h = eqb-true _ _ (and_second (eqb (u8_at s q) letter_f) _ (and_second (leb (q + 2) (length s)) _ h))
