-- A word that is zero is passed over, and the lowest bit of one that is not is the answer. Assumes nothing.
use mathlib.Core.Path.{◌≡◌, sym, ap, ◌∙◌}
use Prim.Native.Nat.{ℕ, ◌+◌, ◌*◌, ◌≤◌, min}
use native.Mathlib.Nat.{le_refl}
use native.Mathlib.Omega.{arith}
use borrow.Author.Rules.{rules}
use Rattle.words.specs.Clauses.Row.{next_member, found_below}
use Rattle.words.proofs.Found.{found-past, found-min}
use Rattle.words.proofs.NextMember.{next_past, next-zero-word, next_whole_bit}
use Rattle.words.proofs.next_by_word.Goals as goal

pub returns-then-word-ne0 : goal.returns-then-word-ne0
returns-then-word-ne0 c =
    let a = c.args in
    let s = c.loop-k in
    let word = c.type_inv.ws (a.base + s.k) in
    c.forward.ensures ∙ sym (found-min _ a.bound)
    ∙ ap (λ (m : ℕ). found_below m a.bound)
    (sym (s.invariant ∙ next_whole_bit a.ws.now a.base s.k a.bound (search rules) word.fits (omega (arith, c.if-word-ne0.true))))

pub loop-k-preserved : goal.loop-k-preserved
loop-k-preserved c =
    let a = c.args in
    let s = c.loop-k in
    s.invariant ∙ next-zero-word a.ws.now a.base s.k a.bound (search rules) c.if-word-ne0.false

pub returns : goal.returns
returns c =
    let a = c.args in
    let end : min (64 * c.loop-k.k) a.bound ≡ a.bound = omega arith in
    let past : a.bound ≤ next_member a.ws.now a.base (min (64 * c.loop-k.k) a.bound) a.bound = omega (arith, next_past a.ws.now a.base a.bound a.bound (le_refl a.bound), ap (λ (x : ℕ). next_member a.ws.now a.base x a.bound) end) in
    found-past past ∙ ap (λ (m : ℕ). found_below m a.bound) (sym c.loop-k.invariant)
