-- The sets of statements as rows of two words: what the sets of some statements have is gathered one after another, and so what comes to a statement from where a body walk goes on;
-- and the word of what a statement lets through. By the elements of a row of two words, and the walk's next statements. Assumes nothing.
use Prim.Native.Nat.{ℕ, ◌+◌, ◌-◌, ◌^◌, ◌<◌, min}
use mathlib.Core.Bool.{Bool, true, false, cond, true≢false}
use mathlib.Core.List.Memᴰ
use mathlib.Core.List.{List, [], ◌∷◌, ◌++◌}
use mathlib.Core.Logic.{◌⊎◌, inl, inr, ⊎_elim}
use mathlib.Core.Option.{Option}
use mathlib.Core.Path.{◌≡◌, refl, sym, ◌∙◌, ap, subst, subst₂}
use native.Mathlib.Decide.{ℕ_discrete}
use native.Mathlib.Numerals.{add-one}
use native.Mathlib.Omega.{arith}
use lib.Bits.{bit_and, bit_or}
use lib.ListN.{length, get_or, take}
use lib.Seq.{take-suc}
use Rattle.words.specs.Clauses.Row.{bit, has}
use Rattle.words.proofs.Bit.{bit-lt, bit-and, bit_not}
use Rattle.words.proofs.Row.{has-lt}
use Rattle.words.proofs.Pair.{set-low, row_of, empty-row, full_row, either_row}
use Rattle.flow.specs.Flow.{Flow}
use Rattle.theory.specs.Lists.{In, elem}
use Rattle.theory.specs.Body.{kind, successors, references, continuation_of, is_return, or_else, walk_next}
use Rattle.theory.proofs.Lists.{not_so}
use Rattle.statements.specs.Clauses.Layout.{sure_at}
use Rattle.statements.specs.Clauses.Ready.{MembersWord}
use Rattle.sure.specs.Clauses.Layout.{set_at, elements}
use Rattle.sure.specs.Clauses.Missing.{sets, Gathered, NextSet, LetThrough}

-- Some statements, one after another

pub gathered_none : {ws : List ℕ} {n : ℕ} → Gathered ws n [] (0 ∷ 0 ∷ [])
gathered_none = record { from = λ x m e. absurd (omega (arith, empty-row x m)); gets = λ j x t. absurd (Memᴰ.not-nil t) }

pub gathered-one : {ws : List ℕ} {n a b : ℕ} (j : ℕ) → a ≡ get_or ws (set_at n j) 0 → b ≡ get_or ws (set_at n j + 1) 0 → Gathered ws n (j ∷ []) (a ∷ b ∷ [])
gathered-one {ws} {n} {a} {b} j low high = record {
  from = λ x m d. (j, Memᴰ.head refl, sym (row x m) ∙ d);
  gets = λ i x t m d. row x m ∙ subst (λ z. sets ws n z x ≡ 1) (Memᴰ.eq_of_singleton t) d;
}
  where
    row : (x : ℕ) → x < elements → has (a ∷ b ∷ []) 0 x ≡ sets ws n j x
    row x m = rw (low, high) (row_of ws (set_at n j) x m)

pub gathered_both : {ws : List ℕ} {n : ℕ} {js ks : List ℕ} {a b c d : ℕ} → Gathered ws n js (a ∷ b ∷ []) → Gathered ws n ks (c ∷ d ∷ []) → Gathered ws n (js ++ ks) (bit_or a c ∷ bit_or b d ∷ [])
gathered_both {ws} {n} {js} {ks} {a} {b} {c} {d} p q = record {
  from = λ x m e. ⊎_elim (λ g. let t = p.from x m g in (t.0, Memᴰ.append_left ks t.1, t.2)) (λ g. let t = q.from x m g in (t.0, Memᴰ.append_right js t.1, t.2)) (either x m e);
  gets = λ j x t m e.
      ⊎_elim (λ g. let one = p.gets j x g m e in omega (arith, either_row a b c d x m, has-lt (c ∷ d ∷ []) 0 x)) (λ g. let one = q.gets j x g m e in omega (arith, either_row a b c d x m, has-lt (a ∷ b ∷ []) 0 x))
      (Memᴰ.append_cases js t);
}
  where
    either : (x : ℕ) → x < elements → has (bit_or a c ∷ bit_or b d ∷ []) 0 x ≡ 1 → (has (a ∷ b ∷ []) 0 x ≡ 1) ⊎ (has (c ∷ d ∷ []) 0 x ≡ 1)
    either x m e = go (ℕ_discrete (has (a ∷ b ∷ []) 0 x) 1)
      where
        go : Dec (has (a ∷ b ∷ []) 0 x ≡ 1) → (has (a ∷ b ∷ []) 0 x ≡ 1) ⊎ (has (c ∷ d ∷ []) 0 x ≡ 1)
        go (yes g) = inl g
        go (no g) = inr (omega (arith, either_row a b c d x m, has-lt (a ∷ b ∷ []) 0 x, has-lt (c ∷ d ∷ []) 0 x, g))

-- the first k of a list

pub gathered-more : {ws : List ℕ} {n : ℕ} (l : List ℕ) (k : ℕ) {j a b c d : ℕ} → Gathered ws n (take k l) (a ∷ b ∷ []) → k < length l → j ≡ get_or l k 0 → Gathered ws n (j ∷ []) (c ∷ d ∷ [])
    → Gathered ws n (take (k + 1) l) (bit_or a c ∷ bit_or b d ∷ [])
gathered-more {ws} {n} l k {j} {a} {b} {c} {d} g short e one =
    let list : take (k + 1) l ≡ take k l ++ (j ∷ []) = ap (λ z. take z l) (add-one k) ∙ take-suc l k 0 short ∙ ap (λ z. take k l ++ (z ∷ [])) (sym e) in
    subst (λ z. Gathered ws n z (bit_or a c ∷ bit_or b d ∷ [])) (sym list) (gathered_both g one)

-- Where a body walk goes on

module _ (f : Flow) (i : ℕ) {ws : List ℕ} {n : ℕ} where
  pub next-return : is_return (kind f i) ≡ true → NextSet f ws n i (18446744073709551615 ∷ 18446744073709551615 ∷ [])
  next-return e = record { return = λ _. full_row; next = λ d. absurd (true≢false (sym e ∙ d)) }

  pub next_walk : {o : Option ℕ} {row : List ℕ} → is_return (kind f i) ≡ false → continuation_of (kind f i) ≡ o → Gathered ws n (or_else o (successors f i)) row → NextSet f ws n i row
  unfolding walk_next
  next_walk {o} {row} e q g = record {
    return = λ d. absurd (true≢false (sym d ∙ e));
    next = λ _. subst₂ (λ b o. Gathered ws n (cond b [] (or_else o (successors f i))) row) (sym e) (sym q) g;
  }

-- a walk that goes on is not at a RETURN
pub goes_on : (f : Flow) (i : ℕ) {j : ℕ} → In j (walk_next f i) → is_return (kind f i) ≡ false
unfolding walk_next
goes_on f i {j} t =
    not_so (is_return (kind f i)) (λ e. Memᴰ.not-nil (subst (λ b. In j (cond b [] (or_else (continuation_of (kind f i)) (successors f i)))) e t))

-- What a statement lets through: what it does not refer to, and of that what the body has that it asks

-- the complement of a set
module _ {w : ℕ} {p : ℕ → Bool} (m : MembersWord w p) where
  other-bit : (x : ℕ) → x < 64 → bit (2 ^ 64 - 1 - w) x ≡ 1 - cond (p x) 1 0
  other-bit x l = bit_not 64 w x m.word l ∙ ap (λ z. 1 - z) (m.member x l)

  other-free : (x : ℕ) → x < 64 → bit (2 ^ 64 - 1 - w) x ≡ 1 → p x ≡ false
  other-free x l e = not_so (p x) (λ d. let zero : bit (2 ^ 64 - 1 - w) x ≡ 0 = other-bit x l ∙ ap (λ b. 1 - cond b 1 0) d in omega arith)

  free_other : (x : ℕ) → x < 64 → p x ≡ false → bit (2 ^ 64 - 1 - w) x ≡ 1
  free_other x l e = other-bit x l ∙ ap (λ b. 1 - cond b 1 0) e

module _ {f : Flow} {ws : List ℕ} {n i refs : ℕ} (m : MembersWord refs (λ a. elem a (references f i))) where
  pub through-free : get_or ws (sure_at n + i) 0 ≡ 0 → LetThrough f ws n i (2 ^ 64 - 1 - refs)
  through-free none = record {
    others = other-free m;
    asked = λ x b l e d. absurd (omega arith);
    all = λ x l e h. free_other m x l e;
  }

  pub through-body : {w : ℕ} (b : ℕ) → get_or ws (sure_at n + i) 0 ≡ b + 1 → w ≡ get_or ws (set_at n b) 0 → LetThrough f ws n i (bit_and (2 ^ 64 - 1 - refs) w)
  through-body {w} b asks is = record {
    others = λ x l e. other-free m x l (omega (arith, both x, bit-lt (2 ^ 64 - 1 - refs) x));
    asked = λ x c l e d. let it : c ≡ b = omega arith in in_body x l c it ∙ omega (arith, both x, bit-lt w x);
    all = λ x l e h. let one = free_other m x l e in let two = sym (in_body x l b refl) ∙ h b asks in omega (arith, both x);
  }
    where
      both : (x : ℕ) → bit (bit_and (2 ^ 64 - 1 - refs) w) x ≡ min (bit (2 ^ 64 - 1 - refs) x) (bit w x)
      both x = bit-and (2 ^ 64 - 1 - refs) w x

      in_body : (x : ℕ) → x < 64 → (c : ℕ) → c ≡ b → sets ws n c x ≡ bit w x
      in_body x l c e = rw e (set-low ws (set_at n b) x l ∙ ap (λ z. bit z x) (sym is))
