-- The ones of a live-in word are the names of that set, and so the most ones are how many names are live at once. By the sum of a word's bits.
-- Assumes nothing.
use Prim.Native.Nat.{ℕ, zero, suc, ◌+◌, ◌<◌}
use mathlib.Core.Bool.{Bool, true, false}
use mathlib.Core.List.{List}
use mathlib.Core.Path.{◌≡◌, refl, sym, ap, ap₂, ◌∙◌}
use native.Mathlib.Omega.{arith}
use lib.Count.{ones}
use lib.ListN.{get_or}
use Rattle.words.specs.Clauses.Row.{bit, tally}
use Rattle.words.proofs.Tally.{ones-tally}
use Rattle.flow.specs.Flow.{Flow, size}
use Rattle.theory.specs.Lists.{sum_below, max_below}
use Rattle.theory.specs.Live.{member, bit_of, is_live_in, live_in_word}
use Rattle.theory.specs.Interference.{live_count, most_live}
use Rattle.theory.proofs.Below.{max_below-same}
use Rattle.theory.proofs.Names.{live_in_word-member, live_in_word-lt}
use Rattle.statements.proofs.Names.{member-bit, not-member}
use Rattle.interference.specs.Clauses.Rows.{WordsOf}

tally_sum : (k : ℕ) (g h : ℕ → ℕ) → ((x : ℕ) → x < k → g x ≡ h x) → tally g k ≡ sum_below k h
unfolding tally sum_below
tally_sum zero g h same = refl
tally_sum (suc k) g h same = ap₂ (λ (a b : ℕ). a + b) (tally_sum k g h (λ x l. same x (omega arith))) (same k (omega arith))

bit_test : (w x : ℕ) (b : Bool) → member w x ≡ b → bit w x ≡ bit_of b
bit_test w x true e = member-bit w x e
bit_test w x false e = not-member w x e

ones-live : (f : Flow) (i : ℕ) → ones (live_in_word f i) ≡ live_count f i
unfolding live_count
ones-live f i =
    ones-tally f.names (live_in_word f i) (live_in_word-lt f i)
    ∙ tally_sum f.names (bit (live_in_word f i)) (λ x. bit_of (is_live_in f x i)) (λ x l. bit_test (live_in_word f i) x (is_live_in f x i) (live_in_word-member f i x l))

pub most_is : (f : Flow) {n : ℕ} {ins : List ℕ} → size f ≡ n → WordsOf n (live_in_word f) ins → max_below n (λ i. ones (get_or ins i 0)) ≡ most_live f
unfolding most_live
most_is f {n} {ins} e w =
    max_below-same n (λ i. ones (get_or ins i 0)) (live_count f) (λ i l. ap ones (w.word i l) ∙ ones-live f i)
    ∙ ap (λ k. max_below k (live_count f)) (sym e)
