-- The array of one item more is noted, if it has dimensions; the record's items are the statement's. Assumes nothing.
use Prim.Native.Nat.{ℕ, ◌+◌, ◌<◌}
use mathlib.Core.Bool.{◌&&◌, cond}
use mathlib.Core.List.{List}
use mathlib.Core.Path.{◌≡◌, ap, ap₂, sym, subst, ◌∙◌}
use native.Mathlib.Omega.{arith}
use lib.Dec.{eqb}
use lib.ListN.{length, get_or}
use Rattle.flow.specs.Flow.{items, Item}
use Rattle.flow.specs.Format.{flow_of, tabulate, item_at, arrays_of}
use Rattle.records.specs.Clauses.Fields.{item_count}
use Rattle.theory.specs.Lists.{any}
use Rattle.theory.specs.Doubled.{dims}
use Rattle.words.specs.Clauses.Row.{has}
use Rattle.words.proofs.Zeroed.{zeroed-has, length-zeroed}
use Rattle.theory.specs.Body.{kind}
use Rattle.theory.proofs.Lists.{get_or-In, says_one}
use Rattle.flow.specs.Clauses.Answers.{FitFile}
use Rattle.statements.specs.Clauses.Ready.{RecordOf, Keeps, no_item}
use Rattle.statements.proofs.Keeps.{keeps-refl, keeps-trans, keeps-zeroed}
use Rattle.statements.proofs.WellFormed.{statement_in, arrays-is}
use Rattle.records.proofs.Files.{limited}
use Rattle.dataflow.proofs.Sets.{gathering_none, gathering_more, gathering_all}
use borrow.Author.Rules.{rules}
use Rattle.dataflow.proofs.transfer.note_items.Goals as goal

-- the items of the record are those of the statement
items-count : {s : List ℕ} {i p : ℕ} → RecordOf s i p → length (tabulate (item_count s p) (item_at s p)) ≡ item_count s p
items-count r = sym (ap length r.items.list) ∙ r.items.count

item-is : {s : List ℕ} {i p : ℕ} (r : RecordOf s i p) (k : ℕ) → k < item_count s p → get_or (tabulate (item_count s p) (item_at s p)) k no_item ≡ item_at s p k
item-is {s} {i} {p} r k l =
    sym (ap (λ (its : List Item). get_or its k no_item) r.items.list) ∙ r.items.at k no_item (subst (λ (m : ℕ). k < m) (sym r.items.count) l)

item-below : {s : List ℕ} {i p : ℕ} → FitFile s → (r : RecordOf s i p) (k : ℕ) → k < item_count s p → (item_at s p k).array < arrays_of s
item-below {s} {i} {p} fit r k l =
    let its : List Item = items (kind (flow_of s) i) in
    let in_list : k < length its = subst (λ (m : ℕ). k < m) (sym r.items.count) l in
    subst (λ (x : Item). x.array < arrays_of s) (r.items.at k no_item in_list) ((statement_in fit i).dimmed (get_or its k no_item) (get_or-In its k no_item in_list))

pub loop-k-init : goal.loop-k-init
loop-k-init c =
    let zero = c.zero_row.ensures in
    gathering_none dims _ keeps-refl (λ a l. ap (λ (vs : List ℕ). has vs c.args.set a) zero ∙ zeroed-has c.args.work.now c.args.set c.args.width c.requires.3 a l)

pub note_item-requires : goal.note_item-requires
note_item-requires c =
    let size = c.loop-k.invariant.set_is.keeps.size in
    let zero = c.zero_row.ensures in
    let long = ap length zero ∙ length-zeroed c.args.work.now c.args.set c.args.width in
    let few = (limited c.requires.0).arrays in
    let same = arrays-is c.args.file.now in
    let k : ℕ = c.loop-k.k in
    let within = item-below c.requires.0 c.requires.1 k (search rules) in
    (omega (arith, c.requires.2), omega (arith, c.requires.3), omega (arith, c.requires.2, c.item.ensures.0))

pub loop-k-preserved : goal.loop-k-preserved
loop-k-preserved c =
    let x = c.item in
    gathering_more dims (tabulate (item_count c.args.file.now c.args.p) (item_at c.args.file.now c.args.p)) (λ a. eqb x.result.array a && x.result.flag) no_item c.loop-k.invariant (omega (arith, items-count c.requires.1, c.item_count-count.ensures))
    c.note_item.ensures
    (λ a. ap₂ (λ i f. eqb i a && f) x.ensures.0 (sym (says_one x.result.flag) ∙ ap (λ f. eqb f 1) x.ensures.1) ∙ ap (dims a) (sym (item-is c.requires.1 c.loop-k.k (search rules))))

pub returns : goal.returns
returns c =
    let x = gathering_all dims (tabulate (item_count c.args.file.now c.args.p) (item_at c.args.file.now c.args.p)) c.loop-k.invariant (omega (arith, items-count c.requires.1, c.loop-k.invariant.some, c.item_count-count.ensures)) in
    record {
      keeps = keeps-trans (subst (Keeps c.args.set (c.args.set + c.args.width) c.args.work.now) (sym c.zero_row.ensures) (keeps-zeroed c.args.work.now c.args.set c.args.width (omega arith) (omega arith))) x.keeps;
      member = λ a l. x.member a l ∙ ap (λ (its : List Item). cond (any (dims a) its) 1 0) (sym c.requires.1.items.list);
    }
