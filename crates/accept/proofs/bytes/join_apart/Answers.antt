-- One pair more is joined.
use Prim.Native.Nat.{ℕ, ◌+◌}
use mathlib.Core.List.{List}
use mathlib.Core.Path.{◌≡◌, refl, ◌∙◌, ap}
use native.Mathlib.Omega.{arith}
use lib.Bits.{bit_or, bit_xor}
use lib.ListN.{get_or, length, length-append}
use Rattle.std.proofs.lemmas.Slice.Zip.{zip_turn, zip_end}
use Rattle.theory.specs.Queue.{union_below}
use Rattle.accept.proofs.Filled.{union_more}
use Rattle.accept.proofs.bytes.join_apart.Goals as goal

more : (a b : List ℕ) (n m : ℕ) {all x y : ℕ} → all ≡ union_below n (λ k. bit_xor (get_or a k 0) (get_or b k 0)) → x ≡ get_or a n 0 → y ≡ get_or b n 0 → m ≡ n + 1
    → bit_or all (bit_xor x y) ≡ union_below m (λ k. bit_xor (get_or a k 0) (get_or b k 0))
more a b n m e p q l = rw (p, q, l) (union_more n (λ k. bit_xor (get_or a k 0) (get_or b k 0)) e)

pub loop-x-init : goal.loop-x-init
unfolding union_below
loop-x-init c = refl

pub loop-x-preserved : goal.loop-x-preserved
loop-x-preserved c =
    let turn = zip_turn c.args.a.now c.args.b.now c.loop-x.yielded c.into_iter-x-iterator.result c.loop-x.x-iterator c.next.new.self c.next.result (cc) (cc) c.loop-x.yielded_by (c.in-Some.x, c.in-Some.y) c.in-Some.is c.next.ensures.steps in
    more c.args.a.now c.args.b.now (length c.loop-x.yielded) _ c.loop-x.invariant (turn.2 0) (turn.3 0) (length-append c.loop-x.yielded _)

pub returns : goal.returns
returns c =
    let end = zip_end c.args.a.now c.args.b.now c.loop-x.yielded c.into_iter-x-iterator.result c.loop-x.x-iterator c.next.new.self c.next.result (cc) (cc) c.loop-x.yielded_by c.in-None.is c.next.ensures.steps in
    c.loop-x.invariant ∙ ap (λ (n : ℕ). union_below n (λ k. bit_xor (get_or c.args.a.now k 0) (get_or c.args.b.now k 0))) (omega (arith, end, c.requires))
