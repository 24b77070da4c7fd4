-- The body that a plain GOSUB asks: what its one line enters where it has a continuation, which is a statement of the flow. Its word is one more, and 0 where there is none; the words of all
-- statements are noted one after another.
-- By the definition of the bodies that a call enters. Assumes nothing.
use Prim.Native.Nat.{ℕ, ◌+◌, ◌<◌, ◌≤◌}
use mathlib.Core.Bool.{Bool, true, false, cond}
use mathlib.Core.List.Memᴰ
use mathlib.Core.List.{List, [], ◌∷◌, ◌++◌}
use mathlib.Core.Option.{Option, none, some}
use mathlib.Core.Path.{◌≡◌, refl, ap}
use native.Mathlib.Omega.{arith}
use lib.ListN.{length, get_or}
use Rattle.flow.specs.Flow.{Flow, Kind, enters}
use Rattle.flow.specs.Format.{flow_of}
use Rattle.theory.specs.Lists.{In, concat_map, option_list}
use Rattle.theory.specs.Body.{kind, call_lines, continuation_of, is_return, if_some, entered, callees}
use Rattle.theory.specs.Sure.{is_gosub, gosub_body}
use Rattle.theory.proofs.Body.{callees-below}
use Rattle.theory.proofs.Sure.{gosub_callee}
use Rattle.statements.specs.Clauses.Layout.{sure_at}
use Rattle.statements.specs.Clauses.Ready.{Ready, Keeps}
use Rattle.statements.proofs.Keeps.{ready_formed, ready-below}
use Rattle.sure.specs.Clauses.Noting.{body_of, body_word}

-- The body, by the kind and the continuation

-- a plain GOSUB names one line
pub gosub-lines : (k : Kind) → is_gosub k ≡ true → length (call_lines k) ≡ 1
gosub-lines Kind.other e = absurd (cc)
gosub-lines Kind.return e = absurd (cc)
gosub-lines Kind.clr e = absurd (cc)
gosub-lines Kind.run e = absurd (cc)
gosub-lines (Kind.dim items) e = absurd (cc)
gosub-lines (Kind.gosub l c) e = refl
gosub-lines (Kind.on_gosub ls c) e = absurd (cc)

-- a RETURN goes on nowhere
pub return-ends : (k : Kind) → is_return k ≡ true → continuation_of k ≡ none
return-ends Kind.other e = refl
return-ends Kind.return e = refl
return-ends Kind.clr e = refl
return-ends Kind.run e = refl
return-ends (Kind.dim items) e = refl
return-ends (Kind.gosub l c) e = absurd (cc)
return-ends (Kind.on_gosub ls c) e = absurd (cc)

one-entered : (f : Flow) (ls : List ℕ) → length ls ≡ 1 → body_of (concat_map (λ l. option_list (enters f l)) ls) ≡ enters f (get_or ls 0 0)
unfolding concat_map option_list
one-entered f [] e = absurd (omega arith)
one-entered f (l ∷ []) e = go (enters f l)
  where
    go : (o : Option ℕ) → body_of (option_list o ++ []) ≡ o
    go none = refl
    go (some b) = refl
one-entered f (l ∷ m ∷ ls) e = absurd (omega arith)

module _ (f : Flow) (c : ℕ) where
  pub no_gosub : is_gosub (kind f c) ≡ false → gosub_body f c ≡ []
  unfolding gosub_body
  no_gosub e = ap (λ b. cond b (callees f c) []) e

  pub no_continuation : continuation_of (kind f c) ≡ none → gosub_body f c ≡ []
  unfolding gosub_body callees
  no_continuation e = go (is_gosub (kind f c))
    where
      go : (b : Bool) → cond b (if_some (continuation_of (kind f c)) (entered f c) []) [] ≡ []
      go true = ap (λ o. if_some o (entered f c) []) e
      go false = refl

  pub gosub-enters : {k : ℕ} → is_gosub (kind f c) ≡ true → continuation_of (kind f c) ≡ some k → body_of (gosub_body f c) ≡ enters f (get_or (call_lines (kind f c)) 0 0)
  unfolding gosub_body callees entered
  gosub-enters g e = rw (g, e) (one-entered f (call_lines (kind f c)) (gosub-lines (kind f c) g))

-- The word of a body

pub word_some : (l : List ℕ) {b : ℕ} → body_of l ≡ some b → body_word l ≡ b + 1
word_some [] e = absurd (cc)
word_some (x ∷ xs) {b} e = let same : x ≡ b = cc in ap (λ z. z + 1) same

pub word_none : (l : List ℕ) → body_of l ≡ none → body_word l ≡ 0
word_none [] e = refl
word_none (x ∷ xs) e = absurd (cc)

module _ {s ws : List ℕ} {n : ℕ} (r : Ready s ws n) (c : ℕ) where
  pub word_low : body_word (gosub_body (flow_of s) c) ≤ n
  word_low = go (gosub_body (flow_of s) c) (λ b m. ready-below r (callees-below (ready_formed r) c b (gosub_callee (flow_of s) c m)))
    where
      go : (l : List ℕ) → ((b : ℕ) → In b l → b < n) → body_word l ≤ n
      go [] below = omega arith
      go (b ∷ bs) below = omega (arith, below b (Memᴰ.head refl))

  pub body-low : {b : ℕ} → body_of (gosub_body (flow_of s) c) ≡ some b → b < n
  body-low e = omega (arith, word_low, word_some (gosub_body (flow_of s) c) e)

-- The words of the first c statements are noted, the others are 0; found says whether one of the first has a body
pub record BodiesUpTo (f : Flow) (ws vs : List ℕ) (n c : ℕ) (found : Bool) : Type 0 where
  pub asks : (k : ℕ) → k < c → get_or vs (sure_at n + k) 0 ≡ body_word (gosub_body f k)
  pub rest : (k : ℕ) → c ≤ k → k < n → get_or vs (sure_at n + k) 0 ≡ 0
  pub empty : found ≡ false → (k : ℕ) → k < c → body_word (gosub_body f k) ≡ 0
  pub kept : Keeps (sure_at n) (sure_at n + n) ws vs
