-- The certain names from what all statements write and read and from their sets: what is written and not read too early is certain, and nothing else is. Where no name is both written and
-- read, that is what is written. By induction on the statements. Assumes nothing.
use Prim.Native.Nat.{ℕ, ◌+◌, ◌-◌, ◌^◌, ◌<◌, min}
use mathlib.Core.Bool.{true}
use mathlib.Core.List.{List}
use mathlib.Core.Logic.{⊎_elim}
use mathlib.Core.Option.{none}
use mathlib.Core.Path.{◌≡◌, sym, ◌∙◌, ap, subst}
use native.Mathlib.Decide.{ℕ_discrete}
use native.Mathlib.Omega.{arith}
use lib.Bits.{bit_and, bit_or}
use lib.ListN.{get_or}
use Rattle.words.specs.Clauses.Row.{Words, bit}
use Rattle.words.specs.Clauses.Change.{without}
use Rattle.words.proofs.Bit.{bit-lt, bit-or, bit-and, bit_of_zero, bit-without}
use Rattle.words.proofs.Pair.{set-low, set-high}
use Rattle.flow.specs.Flow.{Flow, size, statement}
use Rattle.flow.specs.Format.{flow_of, names_of}
use Rattle.theory.specs.Live.{member, reads, writes}
use Rattle.theory.specs.Certain.{Certain, certain, certain_word}
use Rattle.theory.proofs.Lists.{same_test}
use Rattle.theory.proofs.Names.{names_word_unique}
use Rattle.theory.proofs.Certain.{unwritten-reached, unwritten-free, certain-sound, certain_complete}
use Rattle.statements.specs.Clauses.Ready.{Ready}
use Rattle.statements.specs.Clauses.Uses.{Gathered}
use Rattle.statements.proofs.Keeps.{ready-size, ready_formed}
use Rattle.statements.proofs.WellFormed.{names_is}
use Rattle.statements.proofs.Names.{member-bit, bit-member, or_either, bit_below, word_below, read_word, read_name, written_name, names-word, no_name}
use Rattle.certain.specs.Clauses.Layout.{set_at}
use Rattle.certain.specs.Clauses.Unwritten.{Solved}
use Rattle.certain.specs.Clauses.CertainNames.{Covered, Early}

-- What the statements read too early

pub early_none : {f : Flow} → Early f 0 0
early_none = record { reader = λ x e. absurd (omega (arith, bit_of_zero x)); others = λ x k l. absurd (omega arith) }

module _ {s ws : List ℕ} {n : ℕ} (r : Ready s ws n) where
  module _ {early i at before : ℕ} (h : Solved (flow_of s) ws ws n) (words : Words ws) (l : i < n) (c : Early (flow_of s) i early) (place : at ≡ set_at n i)
      (before-is : before ≡ without (get_or ws (at + 1) 0) (get_or ws at 0)) where
    before-bit : (x : ℕ) → bit before x ≡ min (bit (get_or ws (set_at n i + 1) 0) x) (1 - bit (get_or ws (set_at n i) 0) x)
    before-bit x =
        ap (λ z. bit z x) (before-is ∙ ap (λ z. without (get_or ws (z + 1) 0) (get_or ws z 0)) place)
        ∙ bit-without (get_or ws (set_at n i + 1) 0) (get_or ws (set_at n i) 0) x (words (set_at n i + 1)) (words (set_at n i))

    before-word : before < 2 ^ 64
    before-word = word_below before 64 (λ x e. bit_below (get_or ws (set_at n i + 1) 0) 64 x (words (set_at n i + 1)) (omega (arith, before-bit x, bit-lt (get_or ws (set_at n i + 1) 0) x)))

    before_covered : (x : ℕ) → x < 64 → bit before x ≡ 1 → Covered (flow_of s) i x
    before_covered x m e = (
      unwritten-reached (h.sound i (64 + x) l (omega arith) (set-high ws (set_at n i) x m ∙ omega (arith, before-bit x, bit-lt (get_or ws (set_at n i + 1) 0) x))),
      λ u. let bad : bit (get_or ws (set_at n i) 0) x ≡ 1 = sym (set-low ws (set_at n i) x m) ∙ h.complete i x l (omega arith) u in omega (arith, before-bit x),
    )

    covered_before : (x : ℕ) → x < 64 → Covered (flow_of s) i x → bit before x ≡ 1
    covered_before x m t =
        let high : bit (get_or ws (set_at n i + 1) 0) x ≡ 1 = sym (set-high ws (set_at n i) x m) ∙ h.complete i (64 + x) l (omega arith) (unwritten-free (λ k. no_name r k (64 + x) (omega arith)) t.0) in
        let low : bit (get_or ws (set_at n i) 0) x ≡ 1 → ⊥ = λ e. t.1 (h.sound i x l (omega arith) (set-low ws (set_at n i) x m ∙ e)) in
        omega (arith, before-bit x, bit-lt (get_or ws (set_at n i) 0) x, low)

    -- what the statement reads too early
    early_bit : (x : ℕ) → bit (without (statement (flow_of s) i).read before) x ≡ min (bit (statement (flow_of s) i).read x) (1 - bit before x)
    early_bit x = bit-without (statement (flow_of s) i).read before x (read_word r i) before-word

    found_here : (x : ℕ) → bit (without (statement (flow_of s) i).read before) x ≡ 1 → (reads (flow_of s) i x ≡ true) × (Covered (flow_of s) i x → ⊥)
    found_here x e =
        let read : reads (flow_of s) i x ≡ true = bit-member (statement (flow_of s) i).read x (omega (arith, early_bit x, bit-lt (statement (flow_of s) i).read x)) in
        (read, λ t. let bad = covered_before x (names-word r (read_name r i x read)) t in omega (arith, early_bit x))

    fine_here : (x : ℕ) → reads (flow_of s) i x ≡ true → bit (without (statement (flow_of s) i).read before) x ≡ 0 → Covered (flow_of s) i x
    fine_here x read e =
        let one = member-bit (statement (flow_of s) i).read x read in
        before_covered x (names-word r (read_name r i x read)) (omega (arith, early_bit x, bit-lt before x))

    pub early_more : {e : ℕ} → e ≡ without (statement (flow_of s) i).read before → Early (flow_of s) (i + 1) (bit_or early e)
    early_more {e} p = subst (λ z. Early (flow_of s) (i + 1) (bit_or early z)) (sym p) (record {
      reader = λ x e.
          ⊎_elim (λ d. let t = c.reader x d in (t.0, omega (arith, t.1), t.2, t.3)) (λ d. let t = found_here x d in (i, omega arith, t.0, t.1))
          (or_either early (without (statement (flow_of s) i).read before) x e);
      others = λ x k m read e. fine x k m read e (ℕ_discrete k i);
    })
      where
        fine : (x k : ℕ) → k < i + 1 → reads (flow_of s) k x ≡ true → bit (bit_or early (without (statement (flow_of s) i).read before)) x ≡ 0 → Dec (k ≡ i) → Covered (flow_of s) k x
        fine x k m read e (yes d) =
            subst (λ z. Covered (flow_of s) z x) (sym d)
            (fine_here x (subst (λ z. reads (flow_of s) z x ≡ true) d read) (omega (arith, bit-or early (without (statement (flow_of s) i).read before) x)))
        fine x k m read e (no d) = c.others x k (omega (arith, d)) read (omega (arith, bit-or early (without (statement (flow_of s) i).read before) x))

  -- The answer

  -- a word whose names are the certain ones
  answer : (w : ℕ) → ((x : ℕ) → bit w x ≡ 1 → Certain (flow_of s) x) → ((x : ℕ) → Certain (flow_of s) x → bit w x ≡ 1) → w ≡ certain_word (flow_of s)
  unfolding certain_word
  answer w sound all =
      names_word_unique (flow_of s) (certain (flow_of s)) w
      (subst (λ z. w < 2 ^ z) (sym (names_is s)) (word_below w (names_of s) (λ x e. let t = (sound x e).writer in written_name r t.0 x t.2)))
      (λ x l. same_test (member w x) (certain (flow_of s) x) (λ e. certain_complete (ready_formed r) (sound x (member-bit w x e)))
      (λ e. bit-member w x (all x (certain-sound (ready_formed r) x e))))

  module _ (unkeyed : (flow_of s).handler ≡ none) {written read : ℕ} (u : Gathered (flow_of s) n written read) where
    writer : (x : ℕ) → bit written x ≡ 1 → (i : ℕ) × (i < size (flow_of s)) × (writes (flow_of s) i x ≡ true)
    writer x e = let t = u.written.user x e in (t.0, omega (arith, t.1, ready-size r), t.2)

    has-writer : (x : ℕ) → Certain (flow_of s) x → bit written x ≡ 1
    has-writer x t = u.written.all x t.writer.0 (omega (arith, t.writer.1, ready-size r)) t.writer.2

    -- no name is both written and read
    pub apart : bit_and written read ≡ 0 → written ≡ certain_word (flow_of s)
    apart disjoint = answer written (λ x e. record { no_handler = unkeyed; writer = writer x e; readers = λ k l d. absurd (clash x e k l d) }) has-writer
      where
        clash : (x : ℕ) → bit written x ≡ 1 → (k : ℕ) → k < size (flow_of s) → reads (flow_of s) k x ≡ true → ⊥
        clash x e k l d =
            let one = u.read.all x k (omega (arith, ready-size r)) d in
            let zero : bit (bit_and written read) x ≡ 0 = ap (λ z. bit z x) disjoint ∙ bit_of_zero x in
            omega (arith, bit-and written read x)

    pub without_early : {early : ℕ} → Early (flow_of s) n early → without written early ≡ certain_word (flow_of s)
    without_early {early} c = answer (without written early) sound all
      where
        bits : (x : ℕ) → bit (without written early) x ≡ min (bit written x) (1 - bit early x)
        bits x =
            bit-without written early x (word_below written 64 (λ x e. let t = u.written.user x e in names-word r (written_name r t.0 x t.2)))
            (word_below early 64 (λ x e. let t = c.reader x e in names-word r (read_name r t.0 x t.2)))

        sound : (x : ℕ) → bit (without written early) x ≡ 1 → Certain (flow_of s) x
        sound x e = record {
          no_handler = unkeyed;
          writer = writer x (omega (arith, bits x, bit-lt written x));
          readers = λ k l d. c.others x k (omega (arith, ready-size r)) d (omega (arith, bits x, bit-lt early x));
        }

        all : (x : ℕ) → Certain (flow_of s) x → bit (without written early) x ≡ 1
        all x t =
            let never : bit early x ≡ 1 → ⊥ = λ e. let b = c.reader x e in b.3 (t.readers b.0 (omega (arith, b.1, ready-size r)) b.2) in
            omega (arith, bits x, has-writer x t, bit-lt early x, never)
