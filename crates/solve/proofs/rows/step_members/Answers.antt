-- `solve::rows::step_members` meets its contract: one word is a step from none to all of them.
use Prim.Native.Nat.{ℕ}
use mathlib.Core.List.{List}
use mathlib.Core.Path.{◌≡◌, refl, sym, subst}
use native.Mathlib.Nat.{add-zero}
use native.Mathlib.Omega.{arith}
use lib.ListN.{get_or}
use Rattle.solve.specs.Clauses.Rows.{RowIs, Beside, Aside, WordStepped, mask_at, step_where, member}
use Rattle.solve.proofs.Stepping.{stepping_none, stepping_more, stepping_all}
use Rattle.solve.proofs.rows.step_members.Goals as goal

pub returns-then-width-eq1 : goal.returns-then-width-eq1
returns-then-width-eq1 c =
    let a = c.args in
    let ws : List ℕ = a.work.now in
    let one : a.width ≡ 1 = c.if-width-eq1.true in
    let word = subst (λ (x : ℕ). WordStepped ws c.step_word.new.work 1 a.to a.from 0 (get_or ws x 0) a.effect) (sym (add-zero a.set)) c.step_word.ensures in
    let apart = subst (λ (w : ℕ). Beside w a.to a.from) one c.requires.5 in
    let aside = subst (λ (w : ℕ). Aside w a.set a.to) one c.requires.1 in
    subst (λ (w : ℕ). RowIs ws c.step_word.new.work w a.to (step_where (member ws a.set) a.effect (mask_at ws w a.from))) (sym one)
    (stepping_all (stepping_more stepping_none (omega arith) aside (omega (arith, c.requires.3)) apart word) refl)
