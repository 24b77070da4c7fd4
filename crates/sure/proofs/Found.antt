-- What the sets of the walks say: an array is in the set of a statement exactly when it is missed there, and an element that is no array when a body walk from there comes to a RETURN.
-- So the bodies that are asked are those with a RETURN once the others are opened, and the arrays that a body asked does not miss are the sure ones.
-- By induction on the walks. Assumes nothing.
use Prim.Native.Nat.{ℕ, ◌+◌, ◌-◌, ◌*◌, ◌/◌, ◌%◌, ◌<◌, ◌≤◌}
use mathlib.Core.Bool.{Bool, true, false, cond, not, ◌||◌}
use mathlib.Core.List.Memᴰ
use mathlib.Core.List.{List, [], ◌∷◌}
use mathlib.Core.Logic.{◌⊎◌, inl, inr}
use mathlib.Core.Path.{◌≡◌, refl, sym, ◌∙◌, ap, subst}
use native.Mathlib.Decide.{ℕ_discrete}
use native.Mathlib.Omega.{arith}
use borrow.Author.Tests.{eq-eqb, ne_eqb}
use lib.Dec.{eqb}
use lib.ListN.{get_or}
use Rattle.words.specs.Clauses.Row.{Words, bit, has}
use Rattle.words.proofs.Bit.{bit-lt, bit_not, bit_of_zero, bits_below}
use Rattle.words.proofs.Row.{has-cong}
use Rattle.words.proofs.Pair.{set-low, set-high}
use Rattle.flow.specs.Flow.{Flow}
use Rattle.flow.specs.Format.{flow_of}
use Rattle.theory.specs.Lists.{In, any, select}
use Rattle.theory.specs.Reach.{Reach}
use Rattle.theory.specs.Body.{kind, is_return, walk_next, Walks, opaque_call}
use Rattle.theory.specs.Sure.{gosub_body, Returns, can_return, returning, Missed, missed, sure}
use Rattle.theory.proofs.Lists.{clash, not_so, any_find}
use Rattle.theory.proofs.Reach.{reach_first}
use Rattle.theory.proofs.Body.{walk_next-below, callees-below}
use Rattle.theory.proofs.Sure.{gosub_callee, gosub-one, returning-body, can_return-sound, can_return-complete, missed-sound, missed-complete}
use Rattle.statements.specs.Clauses.Layout.{sure_at, lists_at, row_at}
use Rattle.statements.specs.Clauses.Ready.{Ready, MembersWord}
use Rattle.statements.proofs.Keeps.{ready-size, ready_formed, ready-below}
use Rattle.statements.proofs.Names.{no_array}
use Rattle.statements.proofs.WorkArea.{row_from, row_fits, member-word}
use Rattle.solve.specs.Clauses.Sets.{Comes, Due, Within}
use Rattle.sure.specs.Clauses.Layout.{set_at, first_at, elements, mirror}
use Rattle.sure.specs.Clauses.Noting.{body_word, Asks, FollowsFrom, Followers, Waits, StatementsNoted}
use Rattle.sure.specs.Clauses.Missing.{backward, sets, ReturnsAskNone, Held, Exact}
use Rattle.sure.specs.Clauses.SureArrays.{opened, unmissed, WordsBecome, Opened, SureWords}
use Rattle.sure.proofs.Bodies.{return-ends, no_continuation}
use Rattle.sure.proofs.Followers.{noted-same}

-- The word of a list of bodies, all of which are one

word_in : (l : List ℕ) {b : ℕ} → body_word l ≡ b + 1 → In b l
word_in [] e = absurd (omega arith)
word_in (x ∷ xs) {b} e = Memᴰ.head (let same : b ≡ x = omega arith in same)

abbrev One : List ℕ → Type 0
One l = (x y : ℕ) → In x l → In y l → x ≡ y

in_word : (l : List ℕ) {b : ℕ} → One l → In b l → body_word l ≡ b + 1
in_word [] one m = absurd (Memᴰ.not-nil m)
in_word (x ∷ xs) {b} one m = ap (λ z. z + 1) (one x b (Memᴰ.head refl) m)

any-one : (p : ℕ → Bool) (b : ℕ) (xs : List ℕ) → One (b ∷ xs) → any p (b ∷ xs) ≡ p b
unfolding any
any-one p b xs one = go (p b) refl
  where
    go : (t : Bool) → p b ≡ t → (p b || any p xs) ≡ p b
    go true e = rw e refl
    go false e = rw e (not_so (any p xs) (λ q. let m = any_find p xs q in clash (p m.0) m.2 (ap p (one m.0 b (Memᴰ.tail m.1) (Memᴰ.head refl)) ∙ e)))

-- a body chosen by a test
select-one : (p : ℕ → Bool) (l : List ℕ) → One l → body_word (select p l) ≡ cond (any p l) (body_word l) 0
unfolding select any
select-one p [] one = refl
select-one p (b ∷ xs) one = go (p b) refl
  where
    none : p b ≡ false → (ys : List ℕ) → ((y : ℕ) → In y ys → y ≡ b) → (select p ys ≡ []) × (any p ys ≡ false)
    none e [] same = (refl, refl)
    none e (y ∷ ys) same =
        let here : p y ≡ false = ap p (same y (Memᴰ.head refl)) ∙ e in
        let rest = none e ys (λ z m. same z (Memᴰ.tail m)) in
        (rw here rest.0, rw here rest.1)

    go : (t : Bool) → p b ≡ t → body_word (cond (p b) (b ∷ select p xs) (select p xs)) ≡ cond (p b || any p xs) (b + 1) 0
    go true e = rw e refl
    go false e = let rest = none e xs (λ y m. one y b (Memᴰ.tail m) (Memᴰ.head refl)) in rw (e, rest.0, rest.1) refl

one-gosub : (f : Flow) (c : ℕ) → One (gosub_body f c)
one-gosub f c x y m k = gosub-one f c m (gosub_callee f c k)

one-returning : (f : Flow) (c : ℕ) → One (returning f c)
one-returning f c x y m k = one-gosub f c x y (returning-body f c m).0 (returning-body f c k).0

-- a RETURN has no continuation, and asks nothing
pub returns_ask_none : (f : Flow) (n : ℕ) → ReturnsAskNone f (gosub_body f) n × ReturnsAskNone f (returning f) n
unfolding returning select
returns_ask_none f n = (λ i l e. rw (no_continuation f i (return-ends (kind f i) e)) refl, λ i l e. rw (no_continuation f i (return-ends (kind f i) e)) refl)

-- Walks of the law, and what is missed

comes-missed : (f : Flow) {x i : ℕ} → x < 64 → Comes (backward f (returning f)) x i → Missed f x i
comes-missed f l (Comes.start t) = Missed.at_return t.1 t.0
comes-missed f l (Comes.given e t q g) = absurd g
comes-missed f {x} {i} l (Comes.through e t q p c) = Missed.on t (λ b m. comes-missed f l (q b (l, in_word (returning f i) (one-returning f i) m))) e (comes-missed f l c)

missed-comes : {f : Flow} {x i : ℕ} → Missed f x i → Comes (backward f (returning f)) x i
missed-comes (Missed.at_return e r) = Comes.start (r, e)
missed-comes {f} {x} {i} (Missed.on e q m c) = Comes.through m e (λ b p. missed-comes (q b (word_in (returning f i) p.1))) tt (missed-comes c)

-- what comes where bodies are asked, comes where fewer are
comes-more : (f : Flow) {x i : ℕ} → Comes (backward f (gosub_body f)) x i → Comes (backward f (returning f)) x i
comes-more f (Comes.start t) = Comes.start t
comes-more f (Comes.given e t q g) = absurd g
comes-more f {x} {i} (Comes.through e t q p c) =
    Comes.through e t (λ b r. comes-more f (q b (r.0, in_word (gosub_body f i) (one-gosub f i) (returning-body f i (word_in (returning f i) r.1)).0))) p (comes-more f c)

-- Elements that are no arrays

comes-returns : (f : Flow) (bodies : ℕ → List ℕ) {x i : ℕ} → Comes (backward f bodies) x i → Returns f i
comes-returns f bodies (Comes.start t) = Returns.at Reach.here t.0
comes-returns f bodies (Comes.given e t q g) = absurd g
comes-returns f bodies {i = i} (Comes.through e t q p c) = go e (comes-returns f bodies c)
  where
    go : {j : ℕ} → In j (walk_next f i) → Returns f j → Returns f i
    go m (Returns.at w r) = Returns.at (reach_first m w) r

module _ {s ws : List ℕ} {n : ℕ} (r : Ready s ws n) where
  abbrev f : Flow
  f = flow_of s

  returns-comes : (bodies : ℕ → List ℕ) {x i : ℕ} → 64 ≤ x → Returns f i → Comes (backward f bodies) x i
  returns-comes bodies {x} {i} h (Returns.at w e) = back w (Comes.start (e, no_array r _ x h))
    where
      back : {j : ℕ} → Walks f i j → Comes (backward f bodies) x j → Comes (backward f bodies) x i
      back Reach.here c = c
      back (Reach.on w m) c = back w (Comes.through m (no_array r _ x h) (λ b q. absurd (omega (arith, q.0))) tt c)

  -- walks and bodies stay among the statements

  body_below : (c : ℕ) {b : ℕ} → In b (gosub_body f c) → b < n
  body_below c {b} m = ready-below r (callees-below (ready_formed r) c b (gosub_callee f c m))

  edge-below : (i j : ℕ) → In j (walk_next f i) → j < n
  edge-below i j m = ready-below r (walk_next-below (ready_formed r) i j m)

  pub within-gosub : Within (backward f (gosub_body f)) n
  within-gosub = record { edge = edge-below; needs = λ i b x q. body_below i (word_in (gosub_body f i) q.1) }

  pub within-returning : Within (backward f (returning f)) n
  within-returning = record { edge = edge-below; needs = λ i b x q. body_below i (returning-body f i (word_in (returning f i) q.1)).0 }

  -- The start: no set has anything, and the RETURNs wait

  pub held_first : {us vs : List ℕ} → StatementsNoted f us vs n → Held f (gosub_body f) vs n
  unfolding has
  held_first {us} {vs} t = record { sound = λ i x l m e. absurd (omega (arith, nothing i x l m)); settled = λ i l. settled i l (is_return (kind f i)) refl }
    where
      nothing : (i x : ℕ) → i < n → x < elements → sets vs n i x ≡ 0
      nothing i x l m = ap (λ w. bit w (x % 64)) (t.empty (set_at n i + x / 64) (omega arith) (omega arith)) ∙ bit_of_zero (x % 64)

      settled : (i : ℕ) → i < n → (b : Bool) → is_return (kind f i) ≡ b → Waits vs n i ⊎ ((x : ℕ) → x < elements → Due (backward f (gosub_body f)) (sets vs n) i x → sets vs n i x ≡ 1)
      settled i l true e = inl (t.returns i l e)
      settled i l false e = inr due
        where
          due : (x : ℕ) → x < elements → Due (backward f (gosub_body f)) (sets vs n) i x → sets vs n i x ≡ 1
          due x m (Due.start p) = clash (is_return (kind f i)) p.0 e
          due x m (Due.comes q p z (inl g)) = absurd g
          due x m (Due.comes {j = j} q p z (inr y)) = absurd (omega (arith, y.1, nothing j x (edge-below i j q) m))

  -- The bodies without a RETURN are asked no more

  -- the second word of a set is 0 exactly where no walk comes to a RETURN
  returns-word : {vs : List ℕ} {b : ℕ} → Words vs → Exact f (gosub_body f) vs n → b < n → eqb (get_or vs (set_at n b + 1) 0) 0 ≡ not (can_return f b)
  returns-word {vs} {b} words x l = go (can_return f b) refl
    where
      go : (t : Bool) → can_return f b ≡ t → eqb (get_or vs (set_at n b + 1) 0) 0 ≡ not t
      go true e =
          ne_eqb (get_or vs (set_at n b + 1) 0) 0
          (λ q.
          let one = sym (set-high vs (set_at n b) 0 (omega arith)) ∙ x.complete b 64 l (omega arith) (returns-comes (gosub_body f) (omega arith) (can_return-sound f b e)) in
          omega (arith, one, ap (λ w. bit w 0) q, bit_of_zero 0))
      go false e = eq-eqb (get_or vs (set_at n b + 1) 0) 0 (bits_below 64 (get_or vs (set_at n b + 1) 0) 0 (words (set_at n b + 1)) (omega arith) (λ k m. none k m (ℕ_discrete (bit (get_or vs (set_at n b + 1) 0) k) 1)))
        where
          none : (k : ℕ) → k < 64 → Dec (bit (get_or vs (set_at n b + 1) 0) k ≡ 1) → bit (get_or vs (set_at n b + 1) 0) k ≡ bit 0 k
          none k m (yes q) =
              clash (can_return f b) (can_return-complete (ready_formed r) (subst (λ z. b < z) (sym (ready-size r)) l) (comes-returns f (gosub_body f) (x.sound b (64 + k) l (omega arith) (set-high vs (set_at n b) k m ∙ q)))) e
          none k m (no d) = omega (arith, bit-lt (get_or vs (set_at n b + 1) 0) k, d, bit_of_zero k)

  module _ {vs us : List ℕ} (words : Words vs) (x : Exact f (gosub_body f) vs n) (asks : Asks (gosub_body f) vs n) (o : Opened vs us n) where
    pub asks-returning : Asks (returning f) us n
    unfolding returning any
    asks-returning c l =
        o.become.words c l ∙ ap (opened vs n) (asks c l) ∙ go (gosub_body f c) (one-gosub f c) (λ b m. body_below c m) ∙ sym (select-one (can_return f) (gosub_body f c) (one-gosub f c))
      where
        go : (l : List ℕ) → One l → ((b : ℕ) → In b l → b < n) → opened vs n (body_word l) ≡ cond (any (can_return f) l) (body_word l) 0
        go [] one below = refl
        go (b ∷ bs) one below =
            let zero : eqb (b + 1) 0 ≡ false = ne_eqb (b + 1) 0 (λ e. omega arith) in
            let place : b + 1 - 1 ≡ b = omega arith in
            rw (zero, place, returns-word words x (below b (Memᴰ.head refl)), any-one (can_return f) b bs one) (turn (can_return f b))
          where
            turn : (t : Bool) → cond (not t) 0 (b + 1) ≡ cond t (b + 1) 0
            turn true = refl
            turn false = refl

    -- the words beside those of the sure arrays stay

    low : 7 * n ≤ lists_at n
    low = row_from n n

    sets_stay : (i y : ℕ) → i < n → y < elements → sets us n i y ≡ sets vs n i y
    sets_stay i y l m = has-cong us vs (set_at n i) y (o.become.elsewhere (set_at n i + y / 64) (λ p q. omega (arith, low)) (λ p q. omega arith))

    follows-gosub : (j k : ℕ) → FollowsFrom f (returning f) j k → FollowsFrom f (gosub_body f) j k
    follows-gosub j k (inl m) = inl m
    follows-gosub j k (inr e) = inr (in_word (gosub_body f k) (one-gosub f k) (returning-body f k (word_in (returning f k) e)).0)

    pub followers-returning : Followers f (gosub_body f) vs n → Followers f (returning f) us n
    followers-returning t = record {
      words = λ j l. subst (λ w. (w ≡ 0) ⊎ ((0 < w % 65536) × (w % 65536 ≤ n))) (sym (first-stays j l)) (t.words j l);
      noted = λ j k l m q. noted-same vs us n j k (first-stays j l) (row_stays j k l m) (t.noted j k l m (follows-gosub j k q));
    }
      where
        first-stays : (j : ℕ) → j < n → get_or us (first_at n j) 0 ≡ get_or vs (first_at n j) 0
        first-stays j l = o.become.elsewhere (first_at n j) (λ p q. omega (arith, low)) (λ p q. omega arith)

        row_stays : (j k : ℕ) → j < n → k < n → has us (row_at n j) (mirror n k) ≡ has vs (row_at n j) (mirror n k)
        row_stays j k l m =
            let small : mirror n k < n = omega arith in
            has-cong us vs (row_at n j) (mirror n k) (o.become.elsewhere (row_at n j + mirror n k / 64) (λ p q. omega (arith, row_from n j)) (λ p q. omega (arith, row_fits n l, member-word small)))

    -- whoever asks as before has all that is due, and the others wait
    pub held-opened : Held f (returning f) us n
    held-opened = record { sound = λ i y l m e. comes-more f (x.sound i y l m (sym (sets_stay i y l m) ∙ e)); settled = λ i l. settled i l (ℕ_discrete (get_or us (sure_at n + i) 0) (get_or vs (sure_at n + i) 0)) }
      where
        settled : (i : ℕ) → i < n → Dec (get_or us (sure_at n + i) 0 ≡ get_or vs (sure_at n + i) 0) → Waits us n i ⊎ ((y : ℕ) → y < elements → Due (backward f (returning f)) (sets us n) i y → sets us n i y ≡ 1)
        settled i l (no d) = inl (o.wakes i l d)
        settled i l (yes e) = inr (λ y m q. sets_stay i y l m ∙ x.complete i y l m (due y m q))
          where
            same : body_word (gosub_body f i) ≡ body_word (returning f i)
            same = sym (asks i l) ∙ sym e ∙ asks-returning i l

            due : (y : ℕ) → y < elements → Due (backward f (returning f)) (sets us n) i y → Comes (backward f (gosub_body f)) y i
            due y m (Due.start p) = Comes.start p
            due y m (Due.comes q p z (inl g)) = absurd g
            due y m (Due.comes {j = j} q p z (inr t)) =
                Comes.through q p
                (λ b k.
                let below = within-gosub.needs i b y k in
                x.sound b y below m (sym (sets_stay b y below m) ∙ z b (k.0, sym same ∙ k.1)))
                tt (x.sound j y (edge-below i j q) m (sym (sets_stay j y (edge-below i j q) m) ∙ t.1))

  -- The arrays that a body asked does not miss

  missed-bit : {vs : List ℕ} {a b : ℕ} → Exact f (returning f) vs n → a < 64 → b < n → bit (get_or vs (set_at n b) 0) a ≡ cond (missed f a b) 1 0
  missed-bit {vs} {a} {b} x l m = go (missed f a b) refl
    where
      go : (t : Bool) → missed f a b ≡ t → bit (get_or vs (set_at n b) 0) a ≡ cond t 1 0
      go true e = sym (set-low vs (set_at n b) a l) ∙ x.complete b a m (omega arith) (missed-comes (missed-sound f a b e))
      go false e = off (ℕ_discrete (bit (get_or vs (set_at n b) 0) a) 1)
        where
          off : Dec (bit (get_or vs (set_at n b) 0) a ≡ 1) → bit (get_or vs (set_at n b) 0) a ≡ 0
          off (yes q) = clash (missed f a b) (missed-complete (ready_formed r) (subst (λ z. b < z) (sym (ready-size r)) m) (comes-missed f l (x.sound b a m (omega arith) (set-low vs (set_at n b) a l ∙ q)))) e
          off (no d) = omega (arith, bit-lt (get_or vs (set_at n b) 0) a, d)

  -- what is sure, by the list of bodies asked
  sure_of : (c a : ℕ) → opaque_call f c ≡ false → sure f c a ≡ any (λ b. not (missed f a b)) (returning f c)
  unfolding sure
  sure_of c a o = rw o refl

  pub sure-words : {vs us : List ℕ} → Words vs → Exact f (returning f) vs n → Asks (returning f) vs n → WordsBecome (unmissed vs n) vs us n → SureWords f us n
  unfolding any
  sure-words {vs} {us} words x asks w c l o =
      subst (λ z. MembersWord z (sure f c)) (sym (w.words c l ∙ ap (unmissed vs n) (asks c l)))
      (go (returning f c) (one-returning f c) (λ b m. body_below c (returning-body f c m).0) (λ a. sure_of c a o))
    where
      go : (l : List ℕ) → One l → ((b : ℕ) → In b l → b < n) → ((a : ℕ) → sure f c a ≡ any (λ b. not (missed f a b)) l) → MembersWord (unmissed vs n (body_word l)) (sure f c)
      go [] one below is = record { word = omega arith; member = λ a m. bit_of_zero a ∙ sym (ap (λ t. cond t 1 0) (is a)) }
      go (b ∷ bs) one below is =
          subst (λ z. MembersWord z (sure f c)) (sym value)
          (record {
            word = omega arith;
            member = λ a m.
                bit_not 64 (get_or vs (set_at n b) 0) a (words (set_at n b)) m ∙ ap (λ z. 1 - z) (missed-bit x m (below b (Memᴰ.head refl)))
                ∙ turn (missed f a b) ∙ sym (ap (λ t. cond t 1 0) (is a ∙ any-one (λ b. not (missed f a b)) b bs one));
          })
        where
          value : unmissed vs n (b + 1) ≡ 18446744073709551615 - get_or vs (set_at n b) 0
          value = let zero : eqb (b + 1) 0 ≡ false = ne_eqb (b + 1) 0 (λ e. omega arith) in let place : b + 1 - 1 ≡ b = omega arith in rw (zero, place) refl

          turn : (t : Bool) → 1 - cond t 1 0 ≡ cond (not t) 1 0
          turn true = refl
          turn false = refl

  -- no body, no sure array
  pub no_words : {w : ℕ} (c : ℕ) → w ≡ 0 → body_word (gosub_body f c) ≡ 0 → opaque_call f c ≡ false → MembersWord w (sure f c)
  unfolding any
  no_words c zero none o =
      subst (λ z. MembersWord z (sure f c)) (sym zero)
      (record { word = omega arith; member = λ a m. bit_of_zero a ∙ sym (ap (λ t. cond t 1 0) (sure_of c a o ∙ ap (any (λ b. not (missed f a b))) empty)) })
    where
      empty : returning f c ≡ []
      empty = go (returning f c) refl
        where
          go : (l : List ℕ) → returning f c ≡ l → l ≡ []
          go [] e = refl
          go (b ∷ bs) e = absurd (omega (arith, none, in_word (gosub_body f c) (one-gosub f c) (returning-body f c (subst (In b) (sym e) (Memᴰ.head refl))).0))

  -- the word of a body asked
  pub returning-low : (c : ℕ) → body_word (returning f c) ≤ n
  returning-low c = go (returning f c) (λ b m. body_below c (returning-body f c m).0)
    where
      go : (l : List ℕ) → ((b : ℕ) → In b l → b < n) → body_word l ≤ n
      go [] below = omega arith
      go (b ∷ bs) below = omega (arith, below b (Memᴰ.head refl))
