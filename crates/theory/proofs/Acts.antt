-- A statement's act is one of the turns of each of its edges on which no sure array takes the step of a reference, since the touched step keeps a state; on the continuation edge a touched
-- array may also gain AUTO, and a sure one brings whatever is not NONE. What a body that is not opaque does to an array is a reference or nothing, and so is what the handler does in between,
-- which the last step of every edge makes up for. Assumes nothing.
use Prim.Native.Nat.{ℕ}
use mathlib.Core.Bool.{Bool, true, false, cond, not, ◌&&◌}
use mathlib.Core.List.{List, [], ◌∷◌, ◌++◌, append_assoc}
use mathlib.Core.Path.{◌≡◌, refl, sym, subst}
use Rattle.masks.specs.declared.Effect.{Effect}
use Rattle.masks.specs.declared.Effect.TheVariants.{None, Reference, Dim, Reset, Touched}
use Rattle.masks.specs.State.{State, referenced, turns}
use Rattle.flow.specs.Flow.{Flow, Kind}
use Rattle.theory.specs.Lists.{In, any, elem}
use Rattle.theory.specs.Body.{kind, references, wipes, Walks, Calls, Touches, call_touches}
use Rattle.theory.specs.Key.{handler_touches}
use Rattle.theory.specs.Sure.{sure}
use Rattle.theory.specs.Doubled.{Edge, kind_effects, statement_effects, entering, continuation_effects, own_effects, key_effects, edge_effects}
use Rattle.theory.specs.Walks.{Turns}
use Rattle.theory.specs.Runs.{become, become_all, act}
use Rattle.theory.proofs.Lists.{clash, elem-In}

-- what an effect makes of a state is one of its turns
turns-become : (e : Effect) (s : State) → turns e s (become e s) ≡ true
turns-become None State.none = refl
turns-become None State.auto = refl
turns-become None State.dimmed = refl
turns-become Reference State.none = refl
turns-become Reference State.auto = refl
turns-become Reference State.dimmed = refl
turns-become Dim s = refl
turns-become Reset s = refl
turns-become Touched State.none = refl
turns-become Touched State.auto = refl
turns-become Touched State.dimmed = refl

-- the act is a turn
pub turns-become_all : (es : List Effect) (s : State) → Turns es s (become_all es s)
unfolding become_all
turns-become_all [] s = Turns.same
turns-become_all (e ∷ es) s = Turns.then (turns-become e s) (turns-become_all es (become e s))

pub turns-append : {es fs : List Effect} {s t u : State} → Turns es s t → Turns fs t u → Turns (es ++ fs) s u
turns-append Turns.same r = r
turns-append (Turns.then h q) r = Turns.then h (turns-append q r)

-- the touched step, where there is one
abbrev touched_step : Bool → List Effect
touched_step t = cond t (Touched ∷ []) []

touched-keeps : (t : Bool) (s : State) → Turns (touched_step t) s s
touched-keeps true s = Turns.then (turns-become Touched s) Turns.same
touched-keeps false s = Turns.same

-- what the touched step makes of a state: the state itself, or AUTO of NONE
data Stepped (b : Bool) : State → State → Type 0 where
  same : {s : State} → Stepped b s s
  made : b ≡ true → Stepped b State.none State.auto

stepped : (b : Bool) (s t : State) → Turns (touched_step b) s t → Stepped b s t
stepped true State.none State.none q = Stepped.same
stepped true State.none State.auto q = Stepped.made refl
stepped true State.none State.dimmed (Turns.then p Turns.same) = clash false p refl
stepped true State.auto State.none (Turns.then p Turns.same) = clash false p refl
stepped true State.auto State.auto q = Stepped.same
stepped true State.auto State.dimmed (Turns.then p Turns.same) = clash false p refl
stepped true State.dimmed State.none (Turns.then p Turns.same) = clash false p refl
stepped true State.dimmed State.auto (Turns.then p Turns.same) = clash false p refl
stepped true State.dimmed State.dimmed q = Stepped.same
stepped false s t Turns.same = Stepped.same

-- what the handler may make of a state, the same twice over

pub key-keeps : (f : Flow) (a : ℕ) (s : State) → Turns (key_effects f a) s s
unfolding key_effects
key-keeps f a s = touched-keeps (handler_touches f a) s

key-touches : (f : Flow) (a : ℕ) → handler_touches f a ≡ true → Turns (key_effects f a) State.none State.auto
unfolding key_effects
key-touches f a h = rw h (Turns.then refl Turns.same)

pub key-then : (f : Flow) (a : ℕ) {s t u : State} → Turns (key_effects f a) s t → Turns (key_effects f a) t u → Turns (key_effects f a) s u
unfolding key_effects
key-then f a {s} {t} {u} p q = go (stepped (handler_touches f a) s t p) (stepped (handler_touches f a) t u q)
  where
    go : {s t u : State} → Stepped (handler_touches f a) s t → Stepped (handler_touches f a) t u → Turns (key_effects f a) s u
    go {s} Stepped.same Stepped.same = key-keeps f a s
    go Stepped.same (Stepped.made h) = key-touches f a h
    go (Stepped.made h) Stepped.same = key-touches f a h

-- along any of its edges a statement's act may be brought, and what the handler makes of it, but for a sure array on a continuation edge that goes to no entered statement
pub edge-act : (f : Flow) (i : ℕ) (x : Edge) (a : ℕ) (s : ℕ → State) {u : State} → (x.continues ≡ true → sure f i a ≡ true → entering f i x ≡ true)
    → Turns (key_effects f a) (act f i s a) u → Turns (edge_effects f i x a) (s a) u
unfolding edge_effects own_effects act continuation_effects
edge-act f i x a s h q = turns-append (turns-append (turns-become_all (statement_effects f i a) (s a)) (go x.continues refl (sure f i a) refl)) q
  where
    made : State
    made = become_all (statement_effects f i a) (s a)

    go : (t : Bool) → x.continues ≡ t → (b : Bool) → sure f i a ≡ b
        → Turns (cond t (cond (b && not (entering f i x)) (Reference ∷ []) (touched_step (call_touches f i a))) []) made made
    go true p true q = rw (h p q) (touched-keeps (call_touches f i a) made)
    go true p false q = touched-keeps (call_touches f i a) made
    go false p b q = Turns.same

-- what a run may have done to array a while it was in body e: kept its state, or, where the body or the handler touches the array, made AUTO of NONE
pub data Kept (f : Flow) (e a : ℕ) : State → State → Type 0 where
  kept : {s : State} → Kept f e a s s
  touched : Touches f a e → Kept f e a State.none State.auto
  pressed : handler_touches f a ≡ true → Kept f e a State.none State.auto

pub kept_then : {f : Flow} {e a : ℕ} {s t u : State} → Kept f e a s t → Kept f e a t u → Kept f e a s u
kept_then Kept.kept q = q
kept_then (Kept.touched p) Kept.kept = Kept.touched p
kept_then (Kept.pressed p) Kept.kept = Kept.pressed p

-- what the handler does is one of these
pub key-kept : (f : Flow) (a : ℕ) {e : ℕ} {s t : State} → Turns (key_effects f a) s t → Kept f e a s t
unfolding key_effects
key-kept f a {e} {s} {t} q = go (stepped (handler_touches f a) s t q)
  where
    go : {s t : State} → Stepped (handler_touches f a) s t → Kept f e a s t
    go Stepped.same = Kept.kept
    go (Stepped.made h) = Kept.pressed h

-- and the other way, for a body that touches no more than the handler
pub kept-key : (f : Flow) (a : ℕ) {e : ℕ} {s t : State} → (Touches f a e → handler_touches f a ≡ true) → Kept f e a s t → Turns (key_effects f a) s t
kept-key f a {s = s} h Kept.kept = key-keeps f a s
kept-key f a h (Kept.touched p) = key-touches f a (h p)
kept-key f a h (Kept.pressed p) = key-touches f a p

-- what a body does, the one that calls it does
pub kept-nested : {f : Flow} {e b a : ℕ} {s t : State} → Calls f e b → Kept f b a s t → Kept f e a s t
kept-nested c Kept.kept = Kept.kept
kept-nested c (Kept.touched p) = Kept.touched (Touches.nested c p)
kept-nested c (Kept.pressed p) = Kept.pressed p

-- what a body leaves as NONE it found as NONE
pub kept-none : {f : Flow} {e a : ℕ} {s t : State} → Kept f e a s t → t ≡ State.none → s ≡ State.none
kept-none Kept.kept h = h
kept-none (Kept.touched p) h = refl
kept-none (Kept.pressed p) h = refl

-- the step of a reference brings what a body made of the array, where that is not NONE
reference-kept : {f : Flow} {e a : ℕ} {t u : State} → (u ≡ State.none → ⊥) → Kept f e a t u → Turns (Reference ∷ []) t u
reference-kept {t = State.none} n Kept.kept = absurd (n refl)
reference-kept {t = State.auto} n Kept.kept = Turns.then refl Turns.same
reference-kept {t = State.dimmed} n Kept.kept = Turns.then refl Turns.same
reference-kept n (Kept.touched p) = Turns.then refl Turns.same
reference-kept n (Kept.pressed p) = Turns.then refl Turns.same

-- the call's touched step and then the handler's bring it in any case, and what the handler makes of it
touched-kept : (f : Flow) (a : ℕ) {e : ℕ} {t u v : State} (b : Bool) → (Touches f a e → b ≡ true) → Kept f e a t u → Turns (key_effects f a) u v
    → Turns (touched_step b ++ key_effects f a) t v
touched-kept f a {t = t} b h Kept.kept q = turns-append (touched-keeps b t) q
touched-kept f a b h (Kept.touched p) q = rw (h p) (Turns.then refl q)
touched-kept f a b h (Kept.pressed p) q = turns-append (touched-keeps b State.none) (key-then f a (key-touches f a p) q)

-- along the continuation edge of a call that touches what the body touches, so may what the body made of the call's act, keys in it and after it included, if no sure array is NONE after it
pub edge_kept : (f : Flow) (c : ℕ) (x : Edge) (a : ℕ) {e : ℕ} {s t u v : State} → x.continues ≡ true → (Touches f a e → call_touches f c a ≡ true)
    → (sure f c a ≡ true → u ≡ State.none → ⊥) → Turns (statement_effects f c a) s t → Kept f e a t u → Turns (key_effects f a) u v → Turns (edge_effects f c x a) s v
unfolding edge_effects own_effects continuation_effects entering
edge_kept f c x a {s = s} {t = t} {u = u} {v = v} h touches met q k p =
    subst (λ es. Turns es s v) (sym (append_assoc (statement_effects f c a) _ (key_effects f a))) (turns-append q (rw h (go (sure f c a) refl (not (entering f c x)))))
  where
    go : (b : Bool) → sure f c a ≡ b → (n : Bool) → Turns (cond (b && n) (Reference ∷ []) (touched_step (call_touches f c a)) ++ key_effects f a) t v
    go true e true = turns-append (reference-kept (met e) k) p
    go true e false = touched-kept f a (call_touches f c a) touches k p
    go false e n = touched-kept f a (call_touches f c a) touches k p

-- a statement that does not wipe has no effect but a reference's
no_effects : (k : Kind) (a : ℕ) → wipes k ≡ false → kind_effects k a ≡ []
unfolding kind_effects any
no_effects Kind.other a h = refl
no_effects Kind.return a h = refl
no_effects Kind.clr a h = cc
no_effects Kind.run a h = cc
no_effects (Kind.dim []) a h = refl
no_effects (Kind.dim (x ∷ xs)) a h = cc
no_effects (Kind.gosub l c) a h = refl
no_effects (Kind.on_gosub ls c) a h = refl

-- such a statement on the walk of e does what the body does
pub act-kept : (f : Flow) (i : ℕ) (a : ℕ) {e : ℕ} (s : ℕ → State) → Walks f e i → wipes (kind f i) ≡ false → Kept f e a (s a) (act f i s a)
unfolding act statement_effects become_all
act-kept f i a {e} s w h = rw (no_effects (kind f i) a h) (go (elem a (references f i)) refl (s a))
  where
    referencing : (t : State) → In a (references f i) → Kept f e a t (referenced t)
    referencing State.none m = Kept.touched (Touches.own w m)
    referencing State.auto m = Kept.kept
    referencing State.dimmed m = Kept.kept

    go : (t : Bool) → elem a (references f i) ≡ t → (u : State) → Kept f e a u (become_all (cond t (Reference ∷ []) [] ++ []) u)
    go true q u = referencing u (elem-In a (references f i) q)
    go false q u = Kept.kept

-- and leaves NONE only where it does not refer to the array and found NONE
pub act-none : (f : Flow) (i a : ℕ) (s : ℕ → State) → wipes (kind f i) ≡ false → act f i s a ≡ State.none → (elem a (references f i) ≡ false) × (s a ≡ State.none)
unfolding act statement_effects become_all
act-none f i a s h = rw (no_effects (kind f i) a h) (go (elem a (references f i)) (s a))
  where
    go : (t : Bool) (u : State) → become_all (cond t (Reference ∷ []) [] ++ []) u ≡ State.none → (t ≡ false) × (u ≡ State.none)
    go true State.none e = (cc, refl)
    go true State.auto e = (cc, e)
    go true State.dimmed e = (cc, e)
    go false u e = (refl, e)
