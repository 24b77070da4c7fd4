-- What each write of the summaries makes of them: arrays joined to a set, the state of a call or of a body summary_state, a body opened with its walk in its row.
-- One word of the states and sets changes at a time, so every other body and call says what it said.
use Prim.Native.Nat.{ℕ, ◌+◌, ◌/◌, ◌<◌, ◌≤◌}
use mathlib.Core.Bool.{Bool, true}
use mathlib.Core.List.{List}
use mathlib.Core.Logic.{◌≢◌}
use mathlib.Core.Option.{some}
use mathlib.Core.Path.{◌≡◌, sym, ap, ◌∙◌, subst}
use native.Mathlib.Decide.{dec_lt, ℕ_discrete}
use native.Mathlib.Omega.{arith}
use lib.ListN.{length, get_or, set}
use lib.Seq.{get_or-set_same, get_or-set_other}
use Rattle.words.specs.Clauses.Row.{bit, has}
use Rattle.words.specs.Clauses.Change.{joined}
use Rattle.words.proofs.Bit.{bit-lt, bit-or}
use Rattle.words.proofs.Row.{has-cong}
use Rattle.words.proofs.Inserted.{joined_word, joined-other}
use Rattle.flow.specs.Flow.{Flow, size}
use Rattle.theory.specs.Lists.{In}
use Rattle.theory.specs.Body.{callees, touches, call_touches, Walks}
use Rattle.theory.specs.Clauses.WellFormed.{WellFormed}
use Rattle.theory.proofs.Reach.{reach_below}
use Rattle.theory.proofs.Body.{walk_next-below, callees-below}
use Rattle.statements.specs.Clauses.Layout.{calls_at, call_touched_at, bodies_at, touched_at, matrix_at, row_at, entered_row_at}
use Rattle.statements.specs.Clauses.Ready.{Keeps}
use Rattle.statements.proofs.WorkArea.{member-word, row_from, row_fits, rows_apart}
use Rattle.statements.proofs.Keeps.{keeps-trans, keeps-refl, keeps-set, keeps-joined, keeps_widen}
use Rattle.calls.specs.Clauses.Held.{unentered, opened, WalkRow, Walked}
use Rattle.calls.specs.Clauses.Summing.{body, call, touched_by, call_touched_by, Within, BodyState, CalleesEntered, CallState, Summing, OnwardBut, Onward}
use Rattle.calls.proofs.Walking.{only_keeps}

-- Sets

pub joined-more : (ws : List ℕ) (x bits y a : ℕ) → x < length ws → bit (get_or ws y 0) a ≡ 1 → bit (get_or (joined ws x bits) y 0) a ≡ 1
joined-more ws x bits y a l h = go (ℕ_discrete y x)
  where
    go : Dec (y ≡ x) → bit (get_or (joined ws x bits) y 0) a ≡ 1
    go (yes q) =
        let old : bit (get_or ws x 0) a ≡ 1 = subst (λ z. bit (get_or ws z 0) a ≡ 1) q h in
        rw (q, joined_word ws x bits l) (omega (arith, bit-or (get_or ws x 0) bits a, bit-lt bits a, old))
    go (no d) = rw (joined-other ws x bits y d) h

pub joined-has : (ws : List ℕ) (x bits a : ℕ) → x < length ws → bit bits a ≡ 1 → bit (get_or (joined ws x bits) x 0) a ≡ 1
joined-has ws x bits a l h = rw (joined_word ws x bits l) (omega (arith, bit-or (get_or ws x 0) bits a, bit-lt (get_or ws x 0) a, h))

joined-within : {p : ℕ → Bool} (ws : List ℕ) (x bits y : ℕ) → x < length ws → Within (get_or ws y 0) p → (y ≡ x → Within bits p) → Within (get_or (joined ws x bits) y 0) p
joined-within {p} ws x bits y l old new a m h = go (ℕ_discrete y x) (ℕ_discrete (bit (get_or ws y 0) a) 1)
  where
    go : Dec (y ≡ x) → Dec (bit (get_or ws y 0) a ≡ 1) → p a ≡ true
    go (yes q) (yes e) = old a m e
    go (yes q) (no d) =
        let or : bit (get_or (joined ws x bits) x 0) a ≡ 1 = subst (λ z. bit (get_or (joined ws x bits) z 0) a ≡ 1) q h in
        let off : bit (get_or ws x 0) a ≢ 1 = subst (λ z. bit (get_or ws z 0) a ≢ 1) q d in
        new q a m (omega (arith, bit-or (get_or ws x 0) bits a, bit-lt bits a, bit-lt (get_or ws x 0) a, off, ap (λ w. bit w a) (joined_word ws x bits l), or))
    go (no d) e = old a m (sym (ap (λ w. bit w a) (joined-other ws x bits y d)) ∙ h)

-- One word of the states and sets changes

record Change (ws vs : List ℕ) (n x : ℕ) : Type 0 where
  keeps : Keeps (calls_at n) (entered_row_at n) ws vs
  other : (y : ℕ) → y < matrix_at n → y ≢ x → get_or vs y 0 ≡ get_or ws y 0

by_place : {A : Type 0} {ws vs : List ℕ} {n x : ℕ} → Change ws vs n x → (y : ℕ) → y < matrix_at n → (y ≡ x → A) → (get_or vs y 0 ≡ get_or ws y 0 → A) → A
by_place {A} {ws} {vs} {n} {x} s y l h k = go (ℕ_discrete y x)
  where
    go : Dec (y ≡ x) → A
    go (yes q) = h q
    go (no d) = k (s.other y l d)

module _ (ws : List ℕ) (n x v : ℕ) (from : calls_at n ≤ x) (to : x < matrix_at n) where
  change_set : Change ws (set ws x v) n x
  change_set = record { keeps = keeps-set ws x v from (omega (arith, row_from n n)); other = λ y l d. get_or-set_other ws x y v 0 d }

  change_joined : Change ws (joined ws x v) n x
  change_joined = record { keeps = keeps-joined ws x v from (omega (arith, row_from n n)); other = λ y l d. joined-other ws x v y d }

  pub rows-set : (b i : ℕ) → has (set ws x v) (row_at n b) i ≡ has ws (row_at n b) i
  rows-set b i = has-cong _ ws (row_at n b) i (get_or-set_other ws x (row_at n b + i / 64) v 0 (λ q. omega (arith, row_from n b)))

  rows-joined : (b i : ℕ) → has (joined ws x v) (row_at n b) i ≡ has ws (row_at n b) i
  rows-joined b i = has-cong _ ws (row_at n b) i (joined-other ws x v (row_at n b + i / 64) (λ q. omega (arith, row_from n b)))

-- Onward

pub onward-refl : (ws : List ℕ) (n e : ℕ) → OnwardBut e ws ws n
onward-refl ws n e = record {
  keeps = keeps-refl;
  was_open = λ b l d h. h;
  still_open = λ b l d h. h;
  still_entered = λ b l d h. h;
  still_summed = λ c l h. h;
  touched = λ b a l h. h;
  call_touched = λ c a l h. h;
}

pub onward-trans : {ws vs us : List ℕ} {n e : ℕ} → OnwardBut e ws vs n → OnwardBut e vs us n → OnwardBut e ws us n
onward-trans p q = record {
  keeps = keeps-trans p.keeps q.keeps;
  was_open = λ b l d h. p.was_open b l d (q.was_open b l d h);
  still_open = λ b l d h. q.still_open b l d (p.still_open b l d h);
  still_entered = λ b l d h. p.still_entered b l d (q.still_entered b l d h);
  still_summed = λ c l h. p.still_summed c l (q.still_summed c l h);
  touched = λ b a l h. q.touched b a l (p.touched b a l h);
  call_touched = λ c a l h. q.call_touched c a l (p.call_touched c a l h);
}

-- all bodies, so all but e
pub onward_but : {ws vs : List ℕ} {n : ℕ} (e : ℕ) → Onward ws vs n → OnwardBut e ws vs n
onward_but e p = record {
  keeps = p.keeps;
  was_open = λ b l d h. p.was_open b l (λ q. omega arith) h;
  still_open = λ b l d h. p.still_open b l (λ q. omega arith) h;
  still_entered = λ b l d h. p.still_entered b l (λ q. omega arith) h;
  still_summed = p.still_summed;
  touched = p.touched;
  call_touched = p.call_touched;
}

-- all but e, and e is summary_state which was unentered: so all
pub onward-all : {ws vs : List ℕ} {n e : ℕ} → OnwardBut e ws vs n → body ws n e ≡ unentered → body vs n e ≢ unentered → body vs n e ≢ opened → Onward ws vs n
onward-all {ws} {vs} {n} {e} p was now shut = record {
  keeps = p.keeps;
  was_open = λ b l d h. open_before b l h (ℕ_discrete b e);
  still_open = λ b l d h. open_after b l h (ℕ_discrete b e);
  still_entered = λ b l d h. entered b l h (ℕ_discrete b e);
  still_summed = p.still_summed;
  touched = p.touched;
  call_touched = p.call_touched;
}
  where
    open_before : (b : ℕ) → b < n → body vs n b ≡ opened → Dec (b ≡ e) → body ws n b ≡ opened
    open_before b l h (yes q) = absurd (shut (subst (λ z. body vs n z ≡ opened) q h))
    open_before b l h (no d) = p.was_open b l d h

    open_after : (b : ℕ) → b < n → body ws n b ≡ opened → Dec (b ≡ e) → body vs n b ≡ opened
    open_after b l h (yes q) = absurd (let z : body ws n e ≡ opened = subst (λ z. body ws n z ≡ opened) q h in omega (arith, z, was))
    open_after b l h (no d) = p.still_open b l d h

    entered : (b : ℕ) → b < n → body vs n b ≡ unentered → Dec (b ≡ e) → body ws n b ≡ unentered
    entered b l h (yes q) = absurd (now (subst (λ z. body vs n z ≡ unentered) q h))
    entered b l h (no d) = p.still_entered b l d h

-- a change of one word, by where it is
onward_change : {ws vs : List ℕ} {n x : ℕ} (e : ℕ) → Change ws vs n x
    → ((b : ℕ) → b < n → b ≢ e → bodies_at n + b ≢ x)
    → ((c : ℕ) → c < n → calls_at n + c ≡ x → call vs n c ≢ unentered)
    → ((b a : ℕ) → b < n → touched_at n + b ≡ x → bit (touched_by ws n b) a ≡ 1 → bit (touched_by vs n b) a ≡ 1)
    → ((c a : ℕ) → c < n → call_touched_at n + c ≡ x → bit (call_touched_by ws n c) a ≡ 1 → bit (call_touched_by vs n c) a ≡ 1)
    → OnwardBut e ws vs n
onward_change {ws} {vs} {n} e s bodies calls touched call_touched = record {
  keeps = s.keeps;
  was_open = λ b l d h. sym (same b l d) ∙ h;
  still_open = λ b l d h. same b l d ∙ h;
  still_entered = λ b l d h. sym (same b l d) ∙ h;
  still_summed = λ c l h. by_place s (calls_at n + c) (omega arith) (λ q. absurd (calls c l q h)) (λ q. sym q ∙ h);
  touched = λ b a l h. by_place s (touched_at n + b) (omega arith) (λ q. touched b a l q h) (λ q. ap (λ w. bit w a) q ∙ h);
  call_touched = λ c a l h. by_place s (call_touched_at n + c) (omega arith) (λ q. call_touched c a l q h) (λ q. ap (λ w. bit w a) q ∙ h);
}
  where
    same : (b : ℕ) → b < n → b ≢ e → body vs n b ≡ body ws n b
    same b l d = s.other (bodies_at n + b) (omega arith) (bodies b l d)

-- What the states say goes on

record SameBody (ws vs : List ℕ) (n b : ℕ) : Type 0 where
  state : body vs n b ≡ body ws n b
  grows : (a : ℕ) → bit (touched_by ws n b) a ≡ 1 → bit (touched_by vs n b) a ≡ 1
  row : (i : ℕ) → i < n → has vs (row_at n b) i ≡ has ws (row_at n b) i

record SameCall (ws vs : List ℕ) (n c : ℕ) : Type 0 where
  state : call vs n c ≡ call ws n c
  grows : (a : ℕ) → bit (call_touched_by ws n c) a ≡ 1 → bit (call_touched_by vs n c) a ≡ 1

pub walk_kept : {f : Flow} {ws vs : List ℕ} {n b : ℕ} → ((i : ℕ) → Walks f b i → i < n) → ((i : ℕ) → i < n → has vs (row_at n b) i ≡ has ws (row_at n b) i) → WalkRow f ws n b → WalkRow f vs n b
walk_kept low s r = record { sound = λ i m h. r.sound i m (sym (s i m) ∙ h); complete = λ i w. s i (low i w) ∙ r.complete i w }

body_kept : {f : Flow} {ws vs : List ℕ} {n b : ℕ} → ((i : ℕ) → Walks f b i → i < n) → SameBody ws vs n b → BodyState f ws n b → BodyState f vs n b
body_kept low s (BodyState.is_unentered e) = BodyState.is_unentered (s.state ∙ e)
body_kept low s (BodyState.is_open e r) = BodyState.is_open (s.state ∙ e) (walk_kept low s.row r)
body_kept low s (BodyState.is_transparent e o t r) = BodyState.is_transparent (s.state ∙ e) o (λ a m h. s.grows a (t a m h)) (λ h. walk_kept low s.row (r h))
body_kept low s (BodyState.is_opaque e o r) = BodyState.is_opaque (s.state ∙ e) o (walk_kept low s.row r)

entered-kept : {f : Flow} {ws vs : List ℕ} {n c : ℕ} → ((b : ℕ) → In b (callees f c) → body vs n b ≡ unentered → body ws n b ≡ unentered) → CalleesEntered f ws n c → CalleesEntered f vs n c
entered-kept k e = record { continuation = e.continuation; continues = e.continues; bodies = λ b m h. e.bodies b m (k b m h) }

call_kept : {f : Flow} {ws vs : List ℕ} {n c : ℕ} → SameCall ws vs n c → ((b : ℕ) → In b (callees f c) → body vs n b ≡ unentered → body ws n b ≡ unentered)
    → CallState f ws n c → CallState f vs n c
call_kept s k (CallState.is_none e) = CallState.is_none (s.state ∙ e)
call_kept s k (CallState.is_transparent e n o t) = CallState.is_transparent (s.state ∙ e) (entered-kept k n) o (λ a m h. s.grows a (t a m h))
call_kept s k (CallState.is_opaque e n o) = CallState.is_opaque (s.state ∙ e) (entered-kept k n) o

-- The writes

module _ {f : Flow} {n : ℕ} (w : WellFormed f) (sz : size f ≡ n) where
  pub walk_low : {b : ℕ} → b < n → (i : ℕ) → Walks f b i → i < n
  walk_low l i r = reach_below (λ i j m. subst (λ m. j < m) sz (walk_next-below w i j m)) l r

  pub callee_low : (c b : ℕ) → In b (callees f c) → b < n
  callee_low c b m = subst (λ m. b < m) sz (callees-below w c b m)

  pub handler-low : (e : ℕ) → f.handler ≡ some e → e < n
  handler-low e q = subst (λ m. e < m) sz (w.handler e q)

  module _ {ws : List ℕ} (s : Summing f ws n) (room : matrix_at n ≤ length ws) where
    -- a set grows
    module _ (x bits : ℕ) (from : calls_at n ≤ x) (to : x < matrix_at n) (nb : (b : ℕ) → b < n → bodies_at n + b ≢ x) (nc : (c : ℕ) → c < n → calls_at n + c ≢ x) where
      onward-joined : Onward ws (joined ws x bits) n
      onward-joined =
          onward_change n (change_joined ws n x bits from to) (λ b l d. nb b l) (λ c l q. absurd (nc c l q))
          (λ b a l q h. joined-more ws x bits (touched_at n + b) a (omega arith) h)
          (λ c a l q h. joined-more ws x bits (call_touched_at n + c) a (omega arith) h)

      summing-joined : ((b : ℕ) → b < n → touched_at n + b ≡ x → Within bits (touches f b)) → ((c : ℕ) → c < n → call_touched_at n + c ≡ x → Within bits (call_touches f c))
          → Summing f (joined ws x bits) n
      summing-joined tb tc = record {
        bodies = λ b l.
            body_kept (walk_low l)
            (record {
              state = joined-other ws x bits (bodies_at n + b) (nb b l);
              grows = λ a h. joined-more ws x bits (touched_at n + b) a (omega arith) h;
              row = λ i m. rows-joined ws n x bits from to b i;
            })
            (s.bodies b l);
        touched = λ b l. joined-within ws x bits (touched_at n + b) (omega arith) (s.touched b l) (tb b l);
        calls = λ c l.
            call_kept
            (record { state = joined-other ws x bits (calls_at n + c) (nc c l); grows = λ a h. joined-more ws x bits (call_touched_at n + c) a (omega arith) h })
            (λ b m h. sym (joined-other ws x bits (bodies_at n + b) (nb b (callee_low c b m))) ∙ h)
            (s.calls c l);
        call_touched = λ c l. joined-within ws x bits (call_touched_at n + c) (omega arith) (s.call_touched c l) (tc c l);
      }

    module _ {e : ℕ} (le : e < n) (bits : ℕ) where
      pub onward-touched : Onward ws (joined ws (touched_at n + e) bits) n
      onward-touched = onward-joined (touched_at n + e) bits (omega arith) (omega arith) (λ b l q. omega arith) (λ c l q. omega arith)

      pub summing-touched : Within bits (touches f e) → Summing f (joined ws (touched_at n + e) bits) n
      summing-touched h =
          summing-joined (touched_at n + e) bits (omega arith) (omega arith) (λ b l q. omega arith) (λ c l q. omega arith)
          (λ b l q. let same : e ≡ b = omega arith in subst (λ z. Within bits (touches f z)) same h) (λ c l q. absurd (omega arith))

      pub onward-call_touched : Onward ws (joined ws (call_touched_at n + e) bits) n
      onward-call_touched = onward-joined (call_touched_at n + e) bits (omega arith) (omega arith) (λ b l q. omega arith) (λ c l q. omega arith)

      pub summing-call_touched : Within bits (call_touches f e) → Summing f (joined ws (call_touched_at n + e) bits) n
      summing-call_touched h =
          summing-joined (call_touched_at n + e) bits (omega arith) (omega arith) (λ b l q. omega arith) (λ c l q. omega arith)
          (λ b l q. absurd (omega arith)) (λ c l q. let same : e ≡ c = omega arith in subst (λ z. Within bits (call_touches f z)) same h)

    -- a state is written
    module _ (x v : ℕ) (from : calls_at n ≤ x) (to : x < matrix_at n) where
      same_word : (y : ℕ) → y ≢ x → get_or (set ws x v) y 0 ≡ get_or ws y 0
      same_word y d = get_or-set_other ws x y v 0 d

      set_body : {b : ℕ} → b < n → bodies_at n + b ≢ x → touched_at n + b ≢ x → BodyState f (set ws x v) n b
      set_body {b} l d t =
          body_kept (walk_low l)
          (record {
            state = same_word (bodies_at n + b) d;
            grows = λ a h. ap (λ w. bit w a) (same_word (touched_at n + b) t) ∙ h;
            row = λ i m. rows-set ws n x v from to b i;
          })
          (s.bodies b l)

      set-call : {c : ℕ} → c < n → calls_at n + c ≢ x → call_touched_at n + c ≢ x → ((b : ℕ) → b < n → body (set ws x v) n b ≡ unentered → body ws n b ≡ unentered)
          → CallState f (set ws x v) n c
      set-call {c} l d t k =
          call_kept
          (record { state = same_word (calls_at n + c) d; grows = λ a h. ap (λ w. bit w a) (same_word (call_touched_at n + c) t) ∙ h })
          (λ b m h. k b (callee_low c b m) h)
          (s.calls c l)

    module _ {c : ℕ} (lc : c < n) (v : ℕ) where
      pub call-set : call (set ws (calls_at n + c) v) n c ≡ v
      call-set = get_or-set_same ws (calls_at n + c) v 0 (omega arith)

      -- a state of bodies or sets is as it was
      pub call-other : (y : ℕ) → y ≢ calls_at n + c → get_or (set ws (calls_at n + c) v) y 0 ≡ get_or ws y 0
      call-other y d = get_or-set_other ws (calls_at n + c) y v 0 d

      pub onward-call : v ≢ unentered → Onward ws (set ws (calls_at n + c) v) n
      onward-call h =
          onward_change n (change_set ws n (calls_at n + c) v (omega arith) (omega arith)) (λ b l d q. omega arith)
          (λ d l q z. let same : d ≡ c = omega arith in h (sym call-set ∙ subst (λ y. call (set ws (calls_at n + c) v) n y ≡ unentered) same z))
          (λ b a l q. absurd (omega arith)) (λ d a l q. absurd (omega arith))

      pub summing-call : CallState f (set ws (calls_at n + c) v) n c → Summing f (set ws (calls_at n + c) v) n
      summing-call new = record {
        bodies = λ b l. set_body (calls_at n + c) v (omega arith) (omega arith) l (λ q. omega arith) (λ q. omega arith);
        touched = λ b l. rw (call-other (touched_at n + b) (λ q. omega arith)) (s.touched b l);
        calls = λ d l. calls d l (ℕ_discrete d c);
        call_touched = λ d l. rw (call-other (call_touched_at n + d) (λ q. omega arith)) (s.call_touched d l);
      }
        where
          calls : (d : ℕ) → d < n → Dec (d ≡ c) → CallState f (set ws (calls_at n + c) v) n d
          calls d l (yes q) = subst (λ y. CallState f (set ws (calls_at n + c) v) n y) (sym q) new
          calls d l (no e) =
              set-call (calls_at n + c) v (omega arith) (omega arith) l (λ q. omega (arith, e)) (λ q. omega arith)
              (λ b m h. sym (call-other (bodies_at n + b) (λ q. omega arith)) ∙ h)

    module _ {e : ℕ} (le : e < n) (v : ℕ) where
      pub body-set : body (set ws (bodies_at n + e) v) n e ≡ v
      body-set = get_or-set_same ws (bodies_at n + e) v 0 (omega arith)

      pub body-other : (y : ℕ) → y ≢ bodies_at n + e → get_or (set ws (bodies_at n + e) v) y 0 ≡ get_or ws y 0
      body-other y d = get_or-set_other ws (bodies_at n + e) y v 0 d

      pub onward-body : OnwardBut e ws (set ws (bodies_at n + e) v) n
      onward-body =
          onward_change e (change_set ws n (bodies_at n + e) v (omega arith) (omega arith)) (λ b l d q. omega (arith, d)) (λ c l q. absurd (omega arith))
          (λ b a l q. absurd (omega arith)) (λ c a l q. absurd (omega arith))

      pub summing-body : v ≢ unentered → BodyState f (set ws (bodies_at n + e) v) n e → Summing f (set ws (bodies_at n + e) v) n
      summing-body h new = record {
        bodies = λ b l. bodies b l (ℕ_discrete b e);
        touched = λ b l. rw (body-other (touched_at n + b) (λ q. omega arith)) (s.touched b l);
        calls = λ c l. set-call (bodies_at n + e) v (omega arith) (omega arith) l (λ q. omega arith) (λ q. omega arith) (λ b m z. entered b m z (ℕ_discrete b e));
        call_touched = λ c l. rw (body-other (call_touched_at n + c) (λ q. omega arith)) (s.call_touched c l);
      }
        where
          bodies : (b : ℕ) → b < n → Dec (b ≡ e) → BodyState f (set ws (bodies_at n + e) v) n b
          bodies b l (yes q) = subst (λ y. BodyState f (set ws (bodies_at n + e) v) n y) (sym q) new
          bodies b l (no d) = set_body (bodies_at n + e) v (omega arith) (omega arith) l (λ q. omega (arith, d)) (λ q. omega arith)

          entered : (b : ℕ) → b < n → body (set ws (bodies_at n + e) v) n b ≡ unentered → Dec (b ≡ e) → body ws n b ≡ unentered
          entered b m z (yes q) = absurd (h (sym body-set ∙ subst (λ y. body (set ws (bodies_at n + e) v) n y ≡ unentered) q z))
          entered b m z (no d) = sym (body-other (bodies_at n + b) (λ q. omega (arith, d))) ∙ z

    -- a body is opened, and its walk comes into its row
    module _ {e : ℕ} {vs : List ℕ} (le : e < n) (m : Walked f (set ws (bodies_at n + e) opened) vs n e) where
      outer : (y : ℕ) → y < matrix_at n → y ≢ bodies_at n + e → get_or vs y 0 ≡ get_or ws y 0
      outer y l d = m.only.below y (omega (arith, row_from n e)) ∙ body-other le opened y d

      pub body_open : body vs n e ≡ opened
      body_open = m.only.below (bodies_at n + e) (omega (arith, row_from n e)) ∙ body-set le opened

      pub onward_open : OnwardBut e ws vs n
      onward_open =
          onward_change e
          (record {
            keeps = keeps-trans (keeps-set ws (bodies_at n + e) opened (omega arith) (omega (arith, row_from n n))) (keeps_widen (omega arith) (omega arith) (only_keeps m.only));
            other = outer;
          })
          (λ b l d q. omega (arith, d)) (λ c l q. absurd (omega arith)) (λ b a l q. absurd (omega arith)) (λ c a l q. absurd (omega arith))

      other_row : (b : ℕ) → b < n → b ≢ e → (i : ℕ) → i < n → has vs (row_at n b) i ≡ has ws (row_at n b) i
      other_row b l d i k = has-cong vs ws (row_at n b) i (word (dec_lt b e) ∙ body-other le opened (row_at n b + i / 64) (λ q. omega (arith, row_from n b)))
        where
          word : Dec (b < e) → get_or vs (row_at n b + i / 64) 0 ≡ get_or (set ws (bodies_at n + e) opened) (row_at n b + i / 64) 0
          word (yes h) = m.only.below _ (omega (arith, rows_apart n h, member-word k))
          word (no h) =
              let more : e < b = omega (arith, h, d) in
              m.only.between _ (omega (arith, rows_apart n more)) (omega (arith, row_fits n l, member-word k))

      pub summing_open : Summing f vs n
      summing_open = record {
        bodies = λ b l. bodies b l (ℕ_discrete b e);
        touched = λ b l. rw (outer (touched_at n + b) (omega arith) (λ q. omega arith)) (s.touched b l);
        calls = λ c l.
            call_kept
            (record {
              state = outer (calls_at n + c) (omega arith) (λ q. omega arith);
              grows = λ a h. ap (λ w. bit w a) (outer (call_touched_at n + c) (omega arith) (λ q. omega arith)) ∙ h;
            })
            (λ b k h. entered b (callee_low c b k) h (ℕ_discrete b e))
            (s.calls c l);
        call_touched = λ c l. rw (outer (call_touched_at n + c) (omega arith) (λ q. omega arith)) (s.call_touched c l);
      }
        where
          bodies : (b : ℕ) → b < n → Dec (b ≡ e) → BodyState f vs n b
          bodies b l (yes q) = subst (λ y. BodyState f vs n y) (sym q) (BodyState.is_open body_open m.row)
          bodies b l (no d) =
              body_kept (walk_low l)
              (record {
                state = outer (bodies_at n + b) (omega arith) (λ q. omega (arith, d));
                grows = λ a h. ap (λ w. bit w a) (outer (touched_at n + b) (omega arith) (λ q. omega arith)) ∙ h;
                row = other_row b l d;
              })
              (s.bodies b l)

          entered : (b : ℕ) → b < n → body vs n b ≡ unentered → Dec (b ≡ e) → body ws n b ≡ unentered
          entered b l h (yes q) = absurd (let z : body vs n e ≡ unentered = subst (λ y. body vs n y ≡ unentered) q h in omega (arith, z, body_open))
          entered b l h (no d) = sym (outer (bodies_at n + b) (omega arith) (λ q. omega (arith, d))) ∙ h
