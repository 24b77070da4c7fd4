-- One group more is shifted past, and its masks are written. Assumes nothing.
use native.Mathlib.Omega.{arith}
use Prim.Native.Nat.{ℕ, ◌+◌, ◌-◌, ◌*◌, ◌/◌, ◌^◌, ◌≤◌}
use borrow.Rule.Slice.PartMut.{put_mid}
use mathlib.Core.List.{List}
use mathlib.Core.Path.{◌≡◌, refl, sym, ap, subst, ◌∙◌}
use native.Mathlib.Nat.{div-one}
use lib.ListN.{length, take, drop}
use lib.Pow.{shr-shr}
use Rattle.std.proofs.lemmas.List.{length-take-le, length-drop}
use Rattle.flow.specs.Format.{tabulate}
use Rattle.words.specs.Clauses.Byte.{byte_of}
use Rattle.words.specs.Clauses.Change.{noted}
use Rattle.dataflow.specs.Clauses.Bytes.{mask_in, EightMasks}
use Rattle.dataflow.proofs.MaskBytes.{mask-shr, le-bytes}
use Rattle.dataflow.proofs.NotedRows.{noted-more, noted-whole}
use Rattle.dataflow.proofs.write.write_word.Invariants.{Filled}
use Rattle.dataflow.proofs.write.write_word.Goals as goal

-- one group more is shifted past
past : (n x g : ℕ) → x ≡ n / 2 ^ (8 * g) → x / 2 ^ 8 ≡ n / 2 ^ (8 * (g + 1))
past n x g e =
    let more : 8 * g + 8 ≡ 8 * (g + 1) = omega arith in
    ap (λ (v : ℕ). v / 2 ^ 8) e ∙ shr-shr n (8 * g) 8 ∙ ap (λ (s : ℕ). n / 2 ^ s) more

-- and m of its masks are written
group-on : (ws : List ℕ) (none auto dimmed : ℕ) {out part : List ℕ} {x y z : ℕ} (g m word : ℕ) {to : ℕ} → Filled ws none auto dimmed out x y z g → EightMasks x y z word → m ≤ 8 → 8 * g + m ≤ length ws
    → part ≡ tabulate (length (take m (drop (8 * g) out))) (byte_of word) → 8 * g + m ≡ to → put_mid (8 * g) m out part ≡ noted ws 0 to (mask_in none auto dimmed)
group-on ws none auto dimmed {x = x} {y} {z} g m word f e few l is all =
    noted-more ws (8 * g) m (mask_in none auto dimmed) (byte_of word) f.bytes l is (λ j h. e j (omega arith) ∙ shifted j ∙ mask-shr none auto dimmed (8 * g) j) all
  where
    shifted : (j : ℕ) → mask_in x y z j ≡ mask_in (none / 2 ^ (8 * g)) (auto / 2 ^ (8 * g)) (dimmed / 2 ^ (8 * g)) j
    shifted j = rw (f.first, f.second, f.third)

pub loop-g-init : goal.loop-g-init
unfolding noted
loop-g-init c = record { first = sym (div-one _); second = sym (div-one _); third = sym (div-one _); bytes = refl }

pub loop-g-preserved : goal.loop-g-preserved
loop-g-preserved c =
    let a = c.args in
    let s = c.loop-g in
    let word : ℕ = c.eight_masks.result in
    let size : 8 * s.g + 8 - 8 * s.g ≡ 8 = omega arith in
    let long : length (take (8 * s.g + 8 - 8 * s.g) (drop (8 * s.g) s.out)) ≡ 8 = length-take-le _ _ (omega (arith, length-drop (8 * s.g) s.out)) ∙ size in
    record {
      first = past a.none s.x s.g s.invariant.first;
      second = past a.auto s.y s.g s.invariant.second;
      third = past a.dimmed s.z s.g s.invariant.third;
      bytes = group-on a.out.now a.none a.auto a.dimmed s.g _ word s.invariant c.eight_masks.ensures (omega arith) (omega arith)
          (c.copy_from_slice.ensures.after ∙ c.to_le_bytes.ensures ∙ le-bytes word ∙ ap (λ (k : ℕ). tabulate k (byte_of word)) (sym long)) (omega arith);
    }

pub returns : goal.returns
returns c =
    let a = c.args in
    let s = c.loop-g in
    let groups : s.g ≡ length a.out.now / 8 = omega arith in
    group-on a.out.now a.none a.auto a.dimmed (length a.out.now / 8) _ c.eight_masks-2.result (subst (λ (g : ℕ). Filled a.out.now a.none a.auto a.dimmed s.out s.x s.y s.z g) groups s.invariant) c.eight_masks-2.ensures (omega arith) (omega arith)
    c.write_bytes.ensures (omega arith)
    ∙ noted-whole a.out.now (mask_in a.none a.auto a.dimmed)
