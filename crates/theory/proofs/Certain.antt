-- Names certainly written are decided exactly: the closure over successors lists what is reached, and the closure that stops at a write of the name what a walk comes to
-- unwritten. That no walk does so says that each walk has a write earlier, by cases on the walk's statements. With a handler no name is certain. Assumes nothing.
use Prim.Native.Nat.{ℕ, ◌^◌, ◌<◌}
use mathlib.Core.Bool.{Bool, true, false, not, ◌&&◌, ◌||◌, and-false}
use mathlib.Core.Logic.{◌⊎◌, inl, inr, ⊎_elim}
use mathlib.Core.Option.{Option, none, some}
use mathlib.Core.Path.{◌≡◌, refl, sym, ◌∙◌, ap}
use native.Mathlib.Omega.{arith}
use borrow.Author.Tests.{not-true}
use Rattle.flow.specs.Flow.{Flow, size}
use Rattle.theory.specs.Lists.{any, up_to, all_below}
use Rattle.theory.specs.Reach.{Reach, reached}
use Rattle.theory.specs.Body.{successors}
use Rattle.theory.specs.Key.{on_handler}
use Rattle.theory.specs.Clauses.WellFormed.{WellFormed}
use Rattle.theory.specs.Live.{member, reads, writes, unwritten}
use Rattle.theory.specs.Certain.{Reached, Unwritten, Certain, reached_at, unwritten_at, certain, certain_word}
use Rattle.theory.proofs.Lists.{clash, not_so, or_cases, and_both, and-true, elem-In, In-elem, any-In, any_find, up_to-In, In-up_to}
use Rattle.theory.proofs.Below.{all_below-at, all_below-all}
use Rattle.theory.proofs.Reach.{reached-sound, reached-complete}
use Rattle.theory.proofs.Live.{In-unwritten, unwritten-In, unwritten-below}
use Rattle.theory.proofs.Names.{names_word-member, names_word-lt, names_word-empty}

-- Walks

unwritten_walk : {f : Flow} {x i : ℕ} → Unwritten f x i → Reach (unwritten f x) f.entry i
unwritten_walk Unwritten.entry = Reach.here
unwritten_walk {f} {x} (Unwritten.on {i = i} u e m) = Reach.on (unwritten_walk u) (unwritten-In f x i e m)

walk_unwritten : {f : Flow} {x i : ℕ} → Reach (unwritten f x) f.entry i → Unwritten f x i
walk_unwritten Reach.here = Unwritten.entry
walk_unwritten {f} {x} (Reach.on {i = i} r m) = let u = In-unwritten f x i m in Unwritten.on (walk_unwritten r) u.0 u.1

pub unwritten-reached : {f : Flow} {x i : ℕ} → Unwritten f x i → Reached f i
unwritten-reached Unwritten.entry = Reach.here
unwritten-reached (Unwritten.on u e m) = Reach.on (unwritten-reached u) m

-- the other way where no statement writes the name
pub unwritten-free : {f : Flow} {x : ℕ} → ((i : ℕ) → writes f i x ≡ false) → {i : ℕ} → Reached f i → Unwritten f x i
unwritten-free never Reach.here = Unwritten.entry
unwritten-free never (Reach.on {i = i} r m) = Unwritten.on (unwritten-free never r) (never i) m

-- a statement of the walk, before the one that it comes to, writes the name
unfoldable pub WrittenOn : (f : Flow) (x : ℕ) {i : ℕ} → Reached f i → Type 0
WrittenOn f x Reach.here = ⊥
WrittenOn f x (Reach.on {i = i} r m) = (writes f i x ≡ true) ⊎ WrittenOn f x r

walk_cases : {f : Flow} {x i : ℕ} (r : Reached f i) → Unwritten f x i ⊎ WrittenOn f x r
unfolding WrittenOn
walk_cases Reach.here = inl Unwritten.entry
walk_cases {f} {x} (Reach.on {i = i} {j = j} r m) = go (writes f i x) refl (walk_cases r)
  where
    go : (b : Bool) → writes f i x ≡ b → Unwritten f x i ⊎ WrittenOn f x r → Unwritten f x j ⊎ ((writes f i x ≡ true) ⊎ WrittenOn f x r)
    go true e s = inr (inl e)
    go false e (inl u) = inl (Unwritten.on u e m)
    go false e (inr p) = inr (inr p)

-- the walk to one that is unwritten has no write earlier
no_write : {f : Flow} {x i : ℕ} (u : Unwritten f x i) → WrittenOn f x (unwritten-reached u) → ⊥
unfolding WrittenOn unwritten-reached
no_write Unwritten.entry p = p
no_write {f} {x} (Unwritten.on {i = i} u e m) (inl t) = clash (writes f i x) t e
no_write (Unwritten.on u e m) (inr p) = no_write u p

-- No walk comes to a statement unwritten exactly where each walk to it has a write earlier

pub written-on-each : {f : Flow} {x i : ℕ} → (Unwritten f x i → ⊥) → (r : Reached f i) → WrittenOn f x r
written-on-each never r = ⊎_elim (λ u. absurd (never u)) (λ p. p) (walk_cases r)

pub each-written-on : {f : Flow} {x i : ℕ} → ((r : Reached f i) → WrittenOn f x r) → Unwritten f x i → ⊥
each-written-on each u = no_write u (each (unwritten-reached u))

-- so a certain name is written earlier on each walk to a statement that reads it
pub certain-written : {f : Flow} {x i : ℕ} → Certain f x → i < size f → reads f i x ≡ true → (r : Reached f i) → WrittenOn f x r
certain-written {i = i} c l e = written-on-each (c.readers i l e).1

-- The tests of the two walks

pub reached_at-sound : (f : Flow) (i : ℕ) → reached_at f i ≡ true → Reached f i
unfolding reached_at
reached_at-sound f i h = reached-sound (successors f) (size f) f.entry (elem-In i (reached (successors f) (size f) f.entry) h)

pub unwritten_at-sound : (f : Flow) (x i : ℕ) → unwritten_at f x i ≡ true → Unwritten f x i
unfolding unwritten_at
unwritten_at-sound f x i h =
    walk_unwritten (reached-sound (unwritten f x) (size f) f.entry (elem-In i (reached (unwritten f x) (size f) f.entry) h))

-- the test that each statement has to pass
passes : Flow → ℕ → ℕ → Bool
passes f x i = not (reads f i x) || (reached_at f i && not (unwritten_at f x i))

-- the test of the handler
free : (o : Option ℕ) → on_handler o true (λ h. false) ≡ true → o ≡ none
free none q = refl
free (some h) q = clash false q refl

module _ {f : Flow} (w : WellFormed f) where
  pub reached_at-complete : {i : ℕ} → 0 < size f → Reached f i → reached_at f i ≡ true
  unfolding reached_at
  reached_at-complete l r = In-elem (reached-complete (size f) (successors f) w.successor (w.entry l) r)

  pub unwritten_at-complete : {x i : ℕ} → 0 < size f → Unwritten f x i → unwritten_at f x i ≡ true
  unfolding unwritten_at
  unwritten_at-complete {x} l u =
      In-elem (reached-complete (size f) (unwritten f x) (unwritten-below w x) (w.entry l) (unwritten_walk u))

  pub certain-sound : (x : ℕ) → certain f x ≡ true → Certain f x
  unfolding certain passes
  certain-sound x h =
      let outer = and_both (on_handler f.handler true (λ h. false)) (any (λ i. writes f i x) (up_to (size f)) && all_below (size f) (passes f x)) h in
      let both = and_both (any (λ i. writes f i x) (up_to (size f))) (all_below (size f) (passes f x)) outer.1 in
      let found = any_find (λ i. writes f i x) (up_to (size f)) both.0 in
      record {
        no_handler = free f.handler outer.0;
        writer = (found.0, In-up_to (size f) found.1, found.2);
        readers = λ i l r.
            go i l (or_cases (not (reads f i x)) (reached_at f i && not (unwritten_at f x i)) (all_below-at (size f) (passes f x) both.1 i l)) r;
      }
    where
      go : (i : ℕ) → i < size f → (not (reads f i x) ≡ true) ⊎ ((reached_at f i && not (unwritten_at f x i)) ≡ true) → reads f i x ≡ true → Reached f i × (Unwritten f x i → ⊥)
      go i l (inl e) r = clash (reads f i x) r (not-true (reads f i x) e)
      go i l (inr e) r =
          let t = and_both (reached_at f i) (not (unwritten_at f x i)) e in
          (reached_at-sound f i t.0, λ u. clash (unwritten_at f x i) (unwritten_at-complete (omega arith) u) (not-true (unwritten_at f x i) t.1))

  pub certain_complete : {x : ℕ} → Certain f x → certain f x ≡ true
  unfolding certain passes
  certain_complete {x} c =
      and-true (on_handler f.handler true (λ h. false)) (any (λ i. writes f i x) (up_to (size f)) && all_below (size f) (passes f x))
      (ap (λ (o : Option ℕ). on_handler o true (λ h. false)) c.no_handler)
      (and-true (any (λ i. writes f i x) (up_to (size f))) (all_below (size f) (passes f x))
      (any-In (λ i. writes f i x) (up_to-In (size f) c.writer.0 c.writer.1) c.writer.2)
      (all_below-all (size f) (passes f x) (λ i l. go i l (reads f i x) refl)))
    where
      go : (i : ℕ) → i < size f → (b : Bool) → reads f i x ≡ b → (not b || (reached_at f i && not (unwritten_at f x i))) ≡ true
      go i l false e = refl
      go i l true e =
          let r = c.readers i l e in
          and-true (reached_at f i) (not (unwritten_at f x i)) (reached_at-complete (omega arith) r.0)
          (ap not (not_so (unwritten_at f x i) (λ t. r.1 (unwritten_at-sound f x i t))))

-- The word

pub certain_word-member : (f : Flow) (x : ℕ) → x < f.names → member (certain_word f) x ≡ certain f x
unfolding certain_word
certain_word-member f = names_word-member f (certain f)

pub certain_word-lt : (f : Flow) → certain_word f < 2 ^ f.names
unfolding certain_word
certain_word-lt f = names_word-lt f (certain f)

pub certain_word-sound : {f : Flow} → WellFormed f → (x : ℕ) → x < f.names → member (certain_word f) x ≡ true → Certain f x
certain_word-sound {f} w x l h = certain-sound w x (sym (certain_word-member f x l) ∙ h)

pub certain_word-complete : {f : Flow} → WellFormed f → {x : ℕ} → x < f.names → Certain f x → member (certain_word f) x ≡ true
certain_word-complete {f} w {x} l c = certain_word-member f x l ∙ certain_complete w c

-- with no statements no name is written
pub certain_word-none : (f : Flow) → size f ≡ 0 → certain_word f ≡ 0
unfolding certain certain_word any up_to
certain_word-none f e = names_word-empty f (certain f) (λ x. rw e (and-false (on_handler f.handler true (λ h. false))))

-- with a handler no name is certain
pub certain_word-handler : (f : Flow) {h : ℕ} → f.handler ≡ some h → certain_word f ≡ 0
unfolding certain certain_word
certain_word-handler f {h} e = names_word-empty f (certain f) (λ x. fails f.handler _ e)
  where
    fails : (o : Option ℕ) (b : Bool) → o ≡ some h → (on_handler o true (λ h. false) && b) ≡ false
    fails o b e = rw e refl
