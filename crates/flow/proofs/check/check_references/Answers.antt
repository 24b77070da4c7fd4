-- The first unfit check of the count, or of the first unfit reference, is the answer, and where there is none all are fit. Assumes nothing.
use native.Mathlib.Omega.{arith}
use Prim.Native.Nat.{ℕ, ◌<◌, ◌+◌}
use mathlib.Core.List.{List, ◌++◌}
use mathlib.Core.Path.{◌≡◌, ◌∙◌, ap}
use borrow.Author.Tests.{le-leb, lt-leb, ne_eqb}
use lib.ListN.{length}
use Rattle.std.specs.Prelude.{Err}
use Rattle.flow.specs.Format.{verdict, fit, each, kind_at, references_place, u8_at, reference_count_checks, reference_checks, reference_count, reference_at, names_place}
use Rattle.flow.specs.Clauses.Answers.{Reached, answer_of}
use Rattle.flow.specs.declared.kind.Kind.TheVariants.{Return}
use Rattle.flow.proofs.KindNumbers.{told-not, other-kind}
use Rattle.flow.proofs.Tests.{tests, rises_next}
use Rattle.flow.proofs.Verdicts.{StopsAt, refusal_at, all_fit}
use Rattle.flow.proofs.Answers.{refused_element, one_more}
use Rattle.flow.proofs.check.check_references.Goals as goal

-- the references of the record at p, which is no RETURN: their count, which stands at `at`, was read
record Counted (s : List ℕ) (p at count : ℕ) : Type 0 where
  there : at ≡ references_place s p
  is : count ≡ reference_count s p
  fits : verdict (reference_count_checks s p) ≡ fit

counted : {s : List ℕ} {p at count : ℕ} → Reached s p at (references_place s p) → at < length s → count ≡ u8_at s at → (kind_at s p ≡ 1 → ⊥)
    → Counted s p at count
unfolding reference_count_checks
counted {s} {p} r h e other = record {
  there = r.there;
  is = e ∙ ap (u8_at s) r.there;
  fits = all_fit (reference_count_checks s p) (omega (arith, tests, r.there), (rw (ne_eqb (kind_at s p) 1 other), tt));
}

-- the byte that was read is reference k
element : {s : List ℕ} {p at count : ℕ} → Counted s p at count → (k : ℕ) {a : ℕ} → a ≡ u8_at s (at + 1 + k) → a ≡ reference_at s p k
element {s} n k e = e ∙ ap (λ (b : ℕ). u8_at s (b + 1 + k)) n.there

-- it is unfit by its check j
refuse : {s : List ℕ} {p at count k : ℕ} (j : ℕ) → Counted s p at count → k < count → verdict (each k (reference_checks s p)) ≡ fit → StopsAt j (reference_checks s p k)
    → Err (refusal_at j (reference_checks s p k))
    ≡ answer_of (verdict (reference_count_checks s p ++ each (reference_count s p) (reference_checks s p))) (names_place s p)
refuse {s} {p} {k = k} j n below before u =
    refused_element (reference_count_checks s p) k (reference_count s p) j (reference_checks s p) _ n.fits (omega (arith, n.is)) before u

pub returns-then-file-q : goal.returns-then-file-q
unfolding reference_checks
returns-then-file-q c =
    let n = counted c.requires c.if-file-at.false c.u8_at-count.ensures (told-not Return c.at.ensures (other-kind _ _ c.if-eq.ensures)) in
    refuse 0 n c.loop-k-test.true c.loop-k.invariant.fits (omega (arith, tests, n.there))

pub returns-then-a-arrays : goal.returns-then-a-arrays
unfolding reference_checks
returns-then-a-arrays c =
    let n = counted c.requires c.if-file-at.false c.u8_at-count.ensures (told-not Return c.at.ensures (other-kind _ _ c.if-eq.ensures)) in
    refuse 1 n c.loop-k-test.true c.loop-k.invariant.fits (omega (arith, tests, n.there, element n c.loop-k.k c.u8_at-a.ensures))

pub returns-then-a-least : goal.returns-then-a-least
unfolding reference_checks
returns-then-a-least c =
    let n = counted c.requires c.if-file-at.false c.u8_at-count.ensures (told-not Return c.at.ensures (other-kind _ _ c.if-eq.ensures)) in
    let inv = c.loop-k.invariant in
    let read = element n c.loop-k.k c.u8_at-a.ensures in
    refuse 2 n c.loop-k-test.true inv.fits
    (omega (arith, tests, n.there), (omega (arith, tests, read), inv.rises.follows _ ∙ lt-leb _ _ (omega (arith, read))))

pub loop-k-preserved : goal.loop-k-preserved
unfolding reference_checks
loop-k-preserved c =
    let n = counted c.requires c.if-file-at.false c.u8_at-count.ensures (told-not Return c.at.ensures (other-kind _ _ c.if-eq.ensures)) in
    let inv = c.loop-k.invariant in
    let read = element n c.loop-k.k c.u8_at-a.ensures in
    record {
      fits = one_more c.loop-k.k (reference_checks c.args.file.now c.args.p) inv.fits
          (omega (arith, tests, n.there), (omega (arith, tests, read), (inv.rises.follows _ ∙ le-leb _ _ (omega (arith, read)), tt)));
      rises = rises_next (reference_at c.args.file.now c.args.p) c.loop-k.k _ read;
    }
