-- What each phase hands to the next: the places noted make the area ready, the summaries and the solver keep what the next phase needs, and together they leave what
-- the definitions say. By the laws of what is kept and of what was noted, written and zeroed.
use Prim.Native.Nat.{ℕ, ◌+◌, ◌-◌, ◌*◌, ◌<◌, ◌≤◌}
use native.Mathlib.Omega.{arith}
use native.Mathlib.Nat.{zero-add, suc-mul, mul-le-mul_right}
use native.Mathlib.Decide.{dec_lt}
use mathlib.Core.Bool.{true, false}
use mathlib.Core.List.{List, ◌++◌}
use mathlib.Core.Path.{◌≡◌, refl, ap, ap₂, sym, ◌∙◌, subst}
use lib.Bits.{bit_or}
use lib.ListN.{length, get_or, take, drop, replicate}
use Rattle.std.proofs.lemmas.List.{length-append, length-drop, length-replicate, length-take-le, get_or-append_right, get_or_append_left, get_or-drop, get_or-replicate}
use Rattle.words.specs.Clauses.Change.{zeroed}
use Rattle.words.proofs.Zeroed.{length-zeroed, zeroed-run, zeroed-other}
use Rattle.flow.specs.declared.Header.{Header}
use Rattle.flow.specs.Flow.{size}
use Rattle.flow.specs.Format.{flow_of, line_count}
use Rattle.words.specs.Clauses.Change.{noted}
use Rattle.flow.specs.Clauses.Answers.{header_of}
use Rattle.records.specs.Clauses.Fields.{noted_word, PartsNoted}
use Rattle.flow.specs.Limits.{max_statements}
use Rattle.records.proofs.Files.{limited}
use Rattle.records.proofs.Noting.{length-noted, noted_other}
use Rattle.records.proofs.Statements.{size_is}
use Rattle.theory.specs.Key.{opaque_handler}
use Rattle.theory.specs.Masks.{any_state, mask_left}
use Rattle.theory.specs.Live.{live_in_word, live_out_word}
use Rattle.theory.proofs.Lists.{clash}
use Rattle.statements.specs.Clauses.Layout.{sure_at, lines_at, bodies_at, matrix_at, queue_at, entered_row_at, set_words}
use Rattle.statements.specs.Clauses.Ready.{Ready, Indexed, Keeps}
use Rattle.statements.proofs.Noted.{ready-noted}
use Rattle.statements.proofs.Keeps.{keeps-zeroed, keeps_widen, ready-keeps, ready-room, indexed-keeps}
use Rattle.statements.proofs.WorkArea as area
use Rattle.solve.specs.Clauses.Layout.{area_end}
use Rattle.solve.proofs.Room.{solver_fits}
use Rattle.statements.proofs.WellFormed.{arrays-is}
use Rattle.calls.specs.Clauses.Held as held
use Rattle.calls.specs.Clauses.Held.{Summarized, Linked}
use Rattle.dataflow.specs.Promise.{Written}
use Rattle.dataflow.specs.Clauses.Transfer.{KeySet}
use Rattle.dataflow.specs.Clauses.Phases.{edges_end, cleared, FitFlow, SummariesMade, SolverStart, Masked, Findings}
use Rattle.dataflow.specs.Clauses.Solving as solver
use Rattle.dataflow.specs.Clauses.Bytes.{both_copies, noted_rows}
use Rattle.dataflow.proofs.Kept.{indexed_stays, linked-stays, key-stays}
use Rattle.dataflow.proofs.NotedRows.{length-rows, rows_past, rows_at}

-- what finding the edges uses ends before the solver's words do
pub edges-within : (n w : ℕ) → edges_end n ≤ area_end n w
edges-within n w = omega (arith, area.row-words-le n)

module _ {s : List ℕ} {h : Header} where
  module _ {ws cs : List ℕ} (flow_fit : FitFlow s h ws) (c : cs ≡ cleared ws h.statements (set_words h.arrays)) where
    abbrev n : ℕ
    n = h.statements

    abbrev w : ℕ
    w = set_words h.arrays

    most : n ≤ max_statements
    most = omega (arith, (limited flow_fit.fit).statements, ap (λ (x : Header). x.statements) flow_fit.header)

    fits : area_end n w ≤ length ws
    fits = omega (arith, flow_fit.work_room, solver_fits {w = w} flow_fit.some most (omega (arith, (limited flow_fit.fit).arrays, ap (λ (x : Header). x.arrays) flow_fit.header)))

    first : List ℕ
    first = zeroed ws (lines_at n) (matrix_at n - lines_at n)

    same_size : length cs ≡ length ws
    unfolding cleared first
    same_size = ap length c ∙ length-zeroed first (edges_end n) (area_end n w - edges_end n) ∙ length-zeroed ws (lines_at n) (matrix_at n - lines_at n)

    -- the words that were zeroed: below the matrix, and behind those that the edges use
    low : (x : ℕ) → lines_at n ≤ x → x < matrix_at n → get_or cs x 0 ≡ 0
    unfolding cleared first
    low x l m =
        ap (λ v. get_or v x 0) c ∙ zeroed-other first (edges_end n) (area_end n w - edges_end n) x (λ k b e. omega (arith, area.row_from n n))
        ∙ zeroed-run ws (lines_at n) (matrix_at n) x (omega (arith, flow_fit.work_room)) l m

    high : (x : ℕ) → edges_end n ≤ x → x < area_end n w → get_or cs x 0 ≡ 0
    unfolding cleared first
    high x l m =
        ap (λ v. get_or v x 0) c
        ∙ zeroed-run first (edges_end n) (area_end n w) x (omega (arith, fits, length-zeroed ws (lines_at n) (matrix_at n - lines_at n))) l m

    pub room_fits : 0 + n ≤ length cs
    room_fits = omega (arith, same_size, flow_fit.work_room)

    -- the places noted stand below the parts of the lines
    module _ {vs : List ℕ} (e : vs ≡ noted cs 0 n (noted_word s)) where
      past : (x : ℕ) → n ≤ x → get_or vs x 0 ≡ get_or cs x 0
      past x l = ap (λ v. get_or v x 0) e ∙ noted_other cs 0 (noted_word s) n x 0 (λ i m q. omega (arith, zero-add i))

      pub lines_unused : (k : ℕ) → k < n → get_or vs (lines_at n + k) 0 ≡ 0
      lines_unused k l = past _ (omega arith) ∙ low _ (omega arith) (omega arith)

      pub lines-room : lines_at n + n ≤ length vs
      lines-room = omega (arith, ap length e, length-noted cs 0 (noted_word s) n, same_size, flow_fit.work_room)

      -- and the parts of the lines behind the places
      module _ {us : List ℕ} (p : PartsNoted s vs us (lines_at n) n (line_count s)) where
        pub noted-indexed : Indexed s h us
        noted-indexed = record {
          ready = ready-keeps (ready-noted cs flow_fit.fit (ap (λ (x : Header). x.statements) flow_fit.header) (omega (arith, same_size, flow_fit.work_room)) e) (record { size = p.size; below = p.below; above = p.above }) (omega arith);
          lines = p.parts;
          header = flow_fit.header;
        }

        pub no_summaries : held.NoSummaries us n
        no_summaries = record { words = λ x l m. p.above x (omega arith) ∙ past x (omega arith) ∙ low x (omega arith) m }

        pub no_sure : (k : ℕ) → k < n → get_or us (sure_at n + k) 0 ≡ 0
        no_sure k l = p.above (sure_at n + k) (omega arith) ∙ past (sure_at n + k) (omega arith) ∙ low (sure_at n + k) (omega arith) (omega arith)

        pub summed : {ts : List ℕ} → Summarized (flow_of s) ts n → Keeps (sure_at n) (entered_row_at n) us ts → SummariesMade s h ts
        summed m k = record {
          indexed = indexed-keeps noted-indexed k (omega arith);
          summarized = m;
          zero = λ x l b. let from = area.row_from n n in k.above x (omega arith) ∙ p.above x (omega arith) ∙ past x (omega arith) ∙ high x l b;
        }

pub used-room : {s ws : List ℕ} {n : ℕ} → Ready s ws n → 0 < n → edges_end n ≤ length ws
used-room {n = n} r p = omega (arith, ready-room r p, area.row-words-le n)

-- with the words of the queue and of the rows of entered statements and of RETURNs zeroed, the forward solver can begin
pub linked : {s : List ℕ} {h : Header} {ws vs us : List ℕ} → SummariesMade s h ws → KeySet (flow_of s) ws h.statements (set_words h.arrays) → 0 < h.statements
    → Linked (flow_of s) vs h.statements → Keeps (bodies_at h.statements) (edges_end h.statements) ws vs
    → us ≡ zeroed vs (queue_at h.statements) (edges_end h.statements - queue_at h.statements) → SolverStart s h us
linked {s} {h} {ws} {vs} {us} begun key some l k c =
    subst (SolverStart s h) (sym c)
    (record {
      indexed = indexed_stays resets indexed';
      linked = linked-stays resets l;
      key = key-stays {lo = queue} (keeps_widen (omega arith) within resets) (key-stays {lo = bodies_at h.statements} (keeps_widen (omega arith) within k) key);
      some = some;
      zero = λ x a b. zeros x a b (dec_lt x end);
    })
  where
    queue : ℕ
    queue = queue_at h.statements

    end : ℕ
    end = edges_end h.statements

    within : end ≤ area_end h.statements (set_words h.arrays)
    within = edges-within h.statements (set_words h.arrays)

    indexed' : Indexed s h vs
    indexed' = indexed-keeps begun.indexed k (omega arith)

    resets : Keeps queue end vs (zeroed vs queue (end - queue))
    resets = keeps-zeroed vs queue (end - queue) (omega arith) (omega arith)

    zeros : (x : ℕ) → queue ≤ x → x < area_end h.statements (set_words h.arrays) → Dec (x < end) → get_or (zeroed vs queue (end - queue)) x 0 ≡ 0
    zeros x a b (yes m) = zeroed-run vs queue end x (omega (arith, used-room indexed'.ready some)) a m
    zeros x a b (no m) =
        zeroed-other vs queue (end - queue) x (λ j y z. m (omega arith)) ∙ k.above x (omega (arith, m)) ∙ begun.zero x (omega (arith, m)) b

-- the numbers of the flow, by the header
module _ (s : List ℕ) {h : Header} (e : h ≡ header_of s) where
  sizes : size (flow_of s) ≡ h.statements
  sizes = size_is s ∙ ap (λ (x : Header). x.statements) (sym e)

  arrays' : (flow_of s).arrays ≡ h.arrays
  arrays' = arrays-is s ∙ ap (λ (x : Header). x.arrays) (sym e)

  -- the bytes of the masks, and those past them

  byte_is : (masks : List ℕ) {m : ℕ → ℕ → ℕ} → ((i a : ℕ) → i < h.statements → a < h.arrays → get_or masks (i * h.arrays + a) 0 ≡ m i a)
      → (i a : ℕ) → i < size (flow_of s) → a < (flow_of s).arrays → get_or masks (i * (flow_of s).arrays + a) 0 ≡ m i a
  byte_is masks b i a l m = ap (λ k. get_or masks (i * k + a) 0) arrays' ∙ b i a (omega (arith, sizes)) (omega (arith, arrays'))

  byte_past : {x : ℕ} → size (flow_of s) * (flow_of s).arrays ≤ x → h.statements * h.arrays ≤ x
  byte_past {x} l = subst (λ k. k * h.arrays ≤ x) sizes (subst (λ k. size (flow_of s) * k ≤ x) arrays' l)

-- the rows of the two copies are the masks of the statement
pub masked : {s : List ℕ} {h : Header} {ws vs masks masks' : List ℕ} {visits : ℕ} → SolverStart s h ws
    → h.statements * h.arrays ≤ length masks
    → opaque_handler (flow_of s) ≡ false
    → solver.RuleResult (flow_of s) ws vs h.statements (set_words h.arrays) visits
    → masks' ≡ noted_rows masks h.arrays (both_copies vs h.statements (set_words h.arrays)) h.statements
    → Masked s h masks masks' vs visits
unfolding both_copies mask_left
masked {s} {h} {ws} {vs} {masks} {masks'} {visits} blank room clear rule e = record {
  ready = ready-keeps blank.indexed.ready rule.keeps (omega (arith, area.row_from h.statements h.statements));
  found = record {
    solved = λ _. record { left = rule.left; over = rule.over; mask_bytes = byte_is s header masks' bytes };
    unsolved = λ q. absurd (clash (opaque_handler (flow_of s)) q clear);
    masks_size = ap length e ∙ length-rows masks h.arrays (both_copies vs h.statements (set_words h.arrays)) h.statements;
    masks_kept = λ x l. ap (λ v. get_or v x 0) e ∙ rows_past masks h.arrays (both_copies vs h.statements (set_words h.arrays)) h.statements x (byte_past s header l);
  };
}
  where
    header : h ≡ header_of s
    header = blank.indexed.header

    joined : (i a : ℕ) → i < h.statements → a < h.arrays → both_copies vs h.statements (set_words h.arrays) i a ≡ mask_left (flow_of s) rule.left i a
    joined i a l m =
        let b : a < (flow_of s).arrays = omega (arith, arrays' s header) in
        ap₂ bit_or
        (rule.masks i a (omega arith) b ∙ ap (λ d. rule.left.masks d a) (sym (zero-add i)))
        (rule.masks (h.statements + i) a (omega arith) b ∙ ap (λ k. rule.left.masks (k + i) a) (sym (sizes s header)))

    bytes : (i a : ℕ) → i < h.statements → a < h.arrays → get_or masks' (i * h.arrays + a) 0 ≡ mask_left (flow_of s) rule.left i a
    bytes i a l m =
        ap (λ v. get_or v (i * h.arrays + a) 0) e
        ∙ rows_at masks h.arrays (both_copies vs h.statements (set_words h.arrays)) h.statements i a l m room
        ∙ joined i a l m

-- all masks alike, without a visit
pub unvisited : {s : List ℕ} {h : Header} {vs masks all : List ℕ} → Indexed s h vs
    → h.statements * h.arrays ≤ length masks
    → opaque_handler (flow_of s) ≡ true
    → all ≡ replicate (length (take (h.statements * h.arrays) masks)) any_state
    → Masked s h masks (all ++ drop (h.statements * h.arrays) masks) vs 0
unvisited {s} {h} {vs} {masks} {all} indexed room covered e = record {
  ready = indexed.ready;
  found = record {
    solved = λ q. absurd (clash (opaque_handler (flow_of s)) covered q);
    unsolved = λ _. record { no_visits = refl; mask_bytes = byte_is s indexed.header (all ++ drop count masks) {m = λ i a. any_state} bytes };
    masks_size = omega (arith, long, length-append all (drop count masks), length-drop count masks);
    masks_kept = λ x l.
        let past = byte_past s indexed.header l in
        get_or-append_right all (drop count masks) count x 0 long past ∙ get_or-drop count masks (x - count) 0 ∙ ap (λ k. get_or masks k 0) (omega arith);
  };
}
  where
    count : ℕ
    count = h.statements * h.arrays

    long : length all ≡ count
    long = ap length e ∙ length-replicate _ any_state ∙ length-take-le count masks room

    bytes : (i a : ℕ) → i < h.statements → a < h.arrays → get_or (all ++ drop count masks) (i * h.arrays + a) 0 ≡ any_state
    bytes i a l m =
        let row = suc-mul i h.arrays in
        let rows = mul-le-mul_right h.arrays l in
        get_or_append_left all (drop count masks) 0 (i * h.arrays + a) (omega (arith, long))
        ∙ ap (λ v. get_or v (i * h.arrays + a) 0) e
        ∙ get_or-replicate _ (i * h.arrays + a) any_state 0 (omega (arith, length-take-le count masks room))

-- all phases together
pub solved : {s : List ℕ} {h : Header} {masks masks' live_in live_in' live_out live_out' vs : List ℕ} {visits : ℕ} → h ≡ header_of s
    → Masked s h masks masks' vs visits
    → Written h.statements (live_in_word (flow_of s)) live_in live_in'
    → Written h.statements (live_out_word (flow_of s)) live_out live_out'
    → Findings (flow_of s) masks masks' live_in live_in' live_out live_out' visits
solved {s} {h} {masks} {masks'} {live_in} {live_in'} {live_out} {live_out'} e m i o = record {
  found = m.found;
  live_in = subst (λ k. Written k (live_in_word (flow_of s)) live_in live_in') (sym (sizes s e)) i;
  live_out = subst (λ k. Written k (live_out_word (flow_of s)) live_out live_out') (sym (sizes s e)) o;
}
