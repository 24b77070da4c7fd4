-- Leaders of RETURNs: rows with the same words hold the same statements, and the leaders are noted RETURN by RETURN, in words that no row has.
-- By the row of RETURNs and the layout.
use Prim.Native.Nat.{ℕ, ◌+◌, ◌-◌, ◌/◌, ◌%◌, ◌≤◌, ◌<◌}
use mathlib.Core.Bool.{Bool, true, cond}
use mathlib.Core.List.{List}
use mathlib.Core.Path.{◌≡◌, refl, sym, ap, subst, ◌∙◌}
use native.Mathlib.Decide.{dec_lt}
use native.Mathlib.Omega.{arith}
use lib.ListN.{length, get_or, set, drop}
use lib.Seq.{get_or-set_same, get_or-set_other}
use Rattle.std.specs.Prelude.{Some, None}
use Rattle.std.specs.List.{slice_range}
use Rattle.std.proofs.lemmas.List.{get_or-take, get_or-drop}
use Rattle.words.specs.Clauses.Row.{bit, has, next_member, found_below}
use Rattle.words.proofs.Found.{found-some, next-some, next-none}
use Rattle.flow.specs.Flow.{Flow}
use Rattle.theory.specs.Body.{kind, is_return}
use Rattle.statements.specs.Clauses.Layout.{bodies_at, matrix_at, row_at, row_words, returns_row_at}
use Rattle.statements.specs.Clauses.Ready.{Keeps}
use Rattle.statements.proofs.WorkArea.{row_from, member-word}
use Rattle.statements.proofs.Keeps.{keeps-refl, keeps-trans, keeps-has, keeps-set}
use Rattle.calls.specs.Clauses.Held.{Leads, Leaders}
use Rattle.calls.specs.Clauses.Joins.{ReturnSet}

-- a word of a part of the area
word_in : (ws : List ℕ) (a width k : ℕ) → k < width → get_or (slice_range ws a (a + width)) k 0 ≡ get_or ws (a + k) 0
word_in ws a width k l = get_or-take ((a + width) - a) (drop a ws) k 0 (omega arith) ∙ get_or-drop a ws k 0

pub leads_same : {ws : List ℕ} {n r l a b width : ℕ} → l < n → a ≡ row_at n l → b ≡ row_at n r → width ≡ row_words n → slice_range ws a (a + width) ≡ slice_range ws b (b + width) → Leads ws n r l
unfolding has
leads_same {ws} {n} {r} {l} {a} {b} {width} below ea eb ew e = record {
  below = below;
  same = λ k m.
      let within : k / 64 < width = omega (arith, ew, member-word m) in
      let word : get_or ws (a + k / 64) 0 ≡ get_or ws (b + k / 64) 0 = sym (word_in ws a width (k / 64) within) ∙ ap (λ (zs : List ℕ). get_or zs (k / 64) 0) e ∙ word_in ws b width (k / 64) within in
      ap (λ (x : ℕ). bit (get_or ws (x + k / 64) 0) (k % 64)) (sym ea) ∙ ap (λ (x : ℕ). bit x (k % 64)) word ∙ ap (λ (x : ℕ). bit (get_or ws (x + k / 64) 0) (k % 64)) eb;
}

pub leads_self : {ws : List ℕ} {n r : ℕ} → r < n → Leads ws n r r
leads_self l = record { below = l; same = λ k m. refl }

-- the RETURNs before r have their leaders
pub record Leading (f : Flow) (ws vs : List ℕ) (n r : ℕ) : Type 0 where
  pub keeps : Keeps (bodies_at n) (matrix_at n) ws vs
  pub led : (s : ℕ) → s < r → s < n → is_return (kind f s) ≡ true → Leads vs n s (get_or vs (bodies_at n + s) 0)

-- the row of RETURNs stays where words below the matrix are written
pub returns_stay : {f : Flow} {ws vs : List ℕ} {n : ℕ} → Keeps (bodies_at n) (matrix_at n) ws vs → matrix_at n ≤ returns_row_at n → ReturnSet f ws n → ReturnSet f vs n
returns_stay {n = n} k l rs = record { holds = λ r m. keeps-has k (returns_row_at n) r (λ a b. omega arith) ∙ rs.holds r m }

-- what a search finds is below its bound
pub found_low : (m b k : ℕ) → Some k ≡ found_below m b → k < b
found_low m b k e = (found-some e).1

pub leading_start : {f : Flow} {ws : List ℕ} {n : ℕ} → Leading f ws ws n 0
leading_start = record { keeps = keeps-refl; led = λ s b. absurd (omega arith) }

-- the next RETURN from c on gets its leader, and no RETURN is passed over
module _ {f : Flow} {ws vs : List ℕ} {n row c : ℕ} (rs : ReturnSet f ws n) (h : Leading f ws vs n c) (few : c ≤ n) (at : row ≡ returns_row_at n) where
  absent : (s : ℕ) → s < n → is_return (kind f s) ≡ true → has vs row s ≡ 0 → ⊥
  absent s m e z =
      let still = returns_stay h.keeps (let low = row_from n n in omega arith) rs in
      let one : ◌≡◌ {A = ℕ} (cond true 1 0) 0 = subst (λ (t : Bool). ◌≡◌ {A = ℕ} (cond t 1 0) 0) e (sym (still.holds s m) ∙ subst (λ (x : ℕ). has vs x s ≡ 0) at z) in
      omega arith

  pub leading_all : None ≡ found_below (next_member vs row c n) n → Leaders f vs n
  leading_all e s m i = led (dec_lt s c)
    where
      led : Dec (s < c) → Leads vs n s (get_or vs (bodies_at n + s) 0)
      led (yes b) = h.led s b m i
      led (no b) = absurd (absent s m i (next-none vs row c n few e s (omega (arith, b)) m))

  module _ {r p l : ℕ} (room : bodies_at n + n ≤ length vs) (e : Some r ≡ found_below (next_member vs row c n) n) (place : p ≡ bodies_at n) (x : Leads vs n r l) where
    k : Keeps (bodies_at n) (matrix_at n) vs (set vs (bodies_at n + r) l)
    k = let below = (found-some e).1 in keeps-set vs (bodies_at n + r) l (omega arith) (omega arith)

    stays : {s m : ℕ} → Leads vs n s m → Leads (set vs (bodies_at n + r) l) n s m
    stays {s} {m} y = record { below = y.below; same = λ j b. row_of m j ∙ y.same j b ∙ sym (row_of s j) }
      where
        row_of : (i j : ℕ) → has (set vs (bodies_at n + r) l) (row_at n i) j ≡ has vs (row_at n i) j
        row_of i j = keeps-has k (row_at n i) j (λ a b. omega (arith, row_from n i))

    led : (s : ℕ) → s < r + 1 → s < n → is_return (kind f s) ≡ true → Dec (s < c) → Dec (s < r) → Leads (set vs (bodies_at n + r) l) n s (get_or (set vs (bodies_at n + r) l) (bodies_at n + s) 0)
    led s b m i (yes d) q =
        let first = (next-some vs row c n few e).0 in
        subst (λ (y : ℕ). Leads (set vs (bodies_at n + r) l) n s y) (sym (get_or-set_other vs (bodies_at n + r) (bodies_at n + s) l 0 (λ q. omega (arith, first.low)))) (stays (h.led s d m i))
    led s b m i (no d) (yes q) = absurd (absent s m i ((next-some vs row c n few e).0.none s (omega (arith, d)) q))
    led s b m i (no d) (no q) =
        let same : s ≡ r = omega (arith, q) in
        subst (λ (z : ℕ). Leads (set vs (bodies_at n + r) l) n z (get_or (set vs (bodies_at n + r) l) (bodies_at n + z) 0)) (sym same)
        (subst (λ (y : ℕ). Leads (set vs (bodies_at n + r) l) n r y) (sym (get_or-set_same vs (bodies_at n + r) l 0 (let below = (found-some e).1 in omega arith))) (stays x))

    pub leading_more : Leading f ws (set vs (p + r) l) n (r + 1)
    leading_more = rw place (record { keeps = keeps-trans h.keeps k; led = λ s b m i. led s b m i (dec_lt s c) (dec_lt s r) })
