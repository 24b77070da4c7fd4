-- The bodies that the lines of a call enter, line by line: one line more adds what it enters, and all lines enter what the call enters.
-- So it is with a row that they are joined to, whatever an entered body adds to it. By the laws of lists and of `Adds`.
use Prim.Native.Nat.{ℕ, ◌+◌, ◌≤◌, ◌<◌}
use mathlib.Core.List.{List, [], ◌∷◌, ◌++◌, append-nil}
use mathlib.Core.Option.{Option, some}
use mathlib.Core.Path.{◌≡◌, sym, ◌∙◌, ap, subst}
use native.Mathlib.Numerals.{add-one}
use native.Mathlib.Omega.{arith}
use lib.ListN.{length, get_or, take}
use lib.Seq.{take-suc, take_all}
use Rattle.flow.specs.Flow.{Flow, enters}
use Rattle.flow.specs.declared.StmtId.{StmtId}
use Rattle.std.specs.Prelude.{Some, None}
use Rattle.flow.specs.Clauses.Answers.{statement_in}
use Rattle.theory.specs.Lists.{In, concat_map, option_list}
use Rattle.theory.specs.Body.{kind, call_lines, entered}
use Rattle.theory.proofs.Lists.{get_or-In, concat_map-In, concat_map-append, option_list-In}
use Rattle.calls.specs.Clauses.Joins.{Adds}
use Rattle.statements.proofs.Told.{enters-at, enters-nothing}
use Rattle.calls.proofs.Joined.{adds_none, adds_then}

abbrev pub entered_by : Flow → List ℕ → List ℕ
entered_by f ls = concat_map (λ l. option_list (enters f l)) ls

pub entered-more : (f : Flow) (ls : List ℕ) (l : ℕ) → l < length ls
    → entered_by f (take l ls) ++ option_list (enters f (get_or ls l 0)) ≡ entered_by f (take (l + 1) ls)
unfolding concat_map
entered-more f ls l h =
    let g : ℕ → List ℕ = λ x. option_list (enters f x) in
    sym (ap (λ (k : ℕ). concat_map g (take k ls)) (add-one l) ∙ ap (concat_map g) (take-suc ls l 0 h) ∙ concat_map-append g (take l ls) (get_or ls l 0 ∷ [])
    ∙ ap (λ (xs : List ℕ). concat_map g (take l ls) ++ xs) (append-nil (g (get_or ls l 0))))

pub entered_all : (f : Flow) (c l : ℕ) → length (call_lines (kind f c)) ≤ l → entered_by f (take l (call_lines (kind f c))) ≡ entered f c
unfolding entered
entered_all f c l h = ap (entered_by f) (take_all l (call_lines (kind f c)) h)

pub entered-line : (f : Flow) (c l b : ℕ) → l < length (call_lines (kind f c)) → enters f (get_or (call_lines (kind f c)) l 0) ≡ some b → In b (entered f c)
unfolding entered
entered-line f c l b h e =
    concat_map-In (λ x. option_list (enters f x)) (get_or-In (call_lines (kind f c)) l 0 h) (option_list-In (enters f (get_or (call_lines (kind f c)) l 0)) b e)

-- a call of one line enters what that line does
pub entered-one : (f : Flow) (c b : ℕ) → length (call_lines (kind f c)) ≡ 1 → enters f (get_or (call_lines (kind f c)) 0 0) ≡ some b → entered f c ≡ b ∷ []
unfolding concat_map option_list
entered-one f c b one e = sym (entered_all f c 1 (omega arith)) ∙ sym (entered-more f (call_lines (kind f c)) 0 (omega arith)) ∙ ap option_list e

-- A row that bodies are joined to, where g says what they add to it

module _ (g : List ℕ → List ℕ) {to : ℕ} where
  pub adds_entered : (o : Option ℕ) {k : StmtId} {ws vs : List ℕ} {n : ℕ} → statement_in o ≡ Some k → Adds to ws vs n (g (k.0 ∷ [])) → Adds to ws vs n (g (option_list o))
  unfolding option_list
  adds_entered o {k} {ws} {vs} {n} e a = subst (λ (x : Option ℕ). Adds to ws vs n (g (option_list x))) (sym (enters-at o k e)) a

  pub adds_nothing : (o : Option ℕ) {ws : List ℕ} {n : ℕ} → statement_in o ≡ None → g [] ≡ [] → Adds to ws ws n (g (option_list o))
  unfolding option_list
  adds_nothing o {ws} {n} e none = subst (λ (x : Option ℕ). Adds to ws ws n (g (option_list x))) (sym (enters-nothing o e)) (subst (λ (xs : List ℕ). Adds to ws ws n xs) (sym none) adds_none)

  pub adds_line : ((xs ys : List ℕ) → g (xs ++ ys) ≡ g xs ++ g ys) → (f : Flow) (ls : List ℕ) (l : ℕ) → l < length ls → {ws vs us : List ℕ} {n : ℕ}
      → Adds to ws vs n (g (entered_by f (take l ls))) → Adds to vs us n (g (option_list (enters f (get_or ls l 0)))) → Adds to ws us n (g (entered_by f (take (l + 1) ls)))
  adds_line splits f ls l h {ws} {us = us} {n = n} a b =
      subst (λ (xs : List ℕ). Adds to ws us n xs) (sym (splits (entered_by f (take l ls)) (option_list (enters f (get_or ls l 0)))) ∙ ap g (entered-more f ls l h)) (adds_then a b)

  pub adds_lines : (f : Flow) (c l : ℕ) → length (call_lines (kind f c)) ≤ l → {ws vs : List ℕ} {n : ℕ}
      → Adds to ws vs n (g (entered_by f (take l (call_lines (kind f c))))) → Adds to ws vs n (g (entered f c))
  adds_lines f c l h {ws} {vs} {n} a = subst (λ (bs : List ℕ). Adds to ws vs n (g bs)) (entered_all f c l h) a
