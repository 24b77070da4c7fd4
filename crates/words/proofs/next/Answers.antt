-- `words::next` meets its contract: at the bound or past it the search stays, and so it does on a member; else the lowest bit that is left in the word is the
-- answer, and a word with no bit left is passed over. Assumes nothing.
use mathlib.Core.Path.{◌≡◌, sym, ap, ◌∙◌}
use Prim.Native.Nat.{ℕ, ◌+◌, ◌-◌, ◌*◌, ◌/◌, ◌%◌, min}
use native.Mathlib.Omega.{arith}
use borrow.Author.Rules.{rules}
use Rattle.words.specs.Clauses.Row.{bit, has, next_member, found_below}
use Rattle.words.proofs.Found.{found-at, found-past, found-min}
use Rattle.words.proofs.NextMember.{next_past, next_here, next_word, next_bit}
use Rattle.words.proofs.next.Goals as goal

pub returns-then-bound-from : goal.returns-then-bound-from
returns-then-bound-from c =
    let stays : next_member c.args.ws.now c.args.base c.args.from c.args.bound ≡ c.args.from = next_past _ _ _ _ c.if-bound-from.true in
    found-past (omega arith)

pub returns-then-rest-eq1 : goal.returns-then-rest-eq1
unfolding has bit
returns-then-rest-eq1 c =
    let a = c.args in
    found-at (search rules) ∙ ap (λ (m : ℕ). found_below m a.bound) (sym (next_here a.ws.now a.base a.from a.bound c.if-rest-eq1.true (search rules)))

pub returns-then-rest-ne0 : goal.returns-then-rest-ne0
returns-then-rest-ne0 c =
    let a = c.args in
    let word = c.type_inv.ws (a.base + a.from / 64) in
    c.forward.ensures ∙ sym (found-min _ a.bound)
    ∙ ap (λ (m : ℕ). found_below m a.bound) (sym (next_bit a.ws.now a.base a.from a.bound (search rules) word.fits (omega (arith, c.if-rest-ne0.true))))

pub returns : goal.returns
returns c =
    let a = c.args in
    let on : min (64 * (a.from / 64 + 1)) a.bound ≡ min (a.from + (64 - a.from % 64)) a.bound = omega arith in
    c.next_by_word.ensures
    ∙ ap (λ (m : ℕ). found_below m a.bound)
    (ap (λ (x : ℕ). next_member a.ws.now a.base x a.bound) on ∙ sym (next_word a.ws.now a.base a.from a.bound (search rules) c.if-rest-ne0.false))
