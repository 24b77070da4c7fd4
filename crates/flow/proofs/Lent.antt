-- A reader in a local, lent to `next` and had again: the one step of a walk by hand that goes from part to part.
-- The local is lent for a lifetime ν ∷ κ that is made for the call: within 'a, as `next` asks, so 'a's token is cut in two halves, one for the loan and one for 'a. After the call ν is ended, and the local comes back at its last value.
use mathlib.Core.Path.{◌≡◌}
use Prim.Native.Nat.{ℕ}
use mathlib.Core.List.{List, [], ◌∷◌}
use seplogic.Ra.Ura.{Ura}
use base.Fraction as Fraction
use base.Fraction.{full_share}
use mir.Syntax.{named, erased, Place, Opd as Operand, Body as Code, seq, call}
use mir.Val.{Val, vptr}
use base.Logic.{SProp, ent, sep, wand, apply∗, id⊢}
use base.Fml.{GName, Lft, Share, Fml, ftrue, fsep, fat, flft, fdead, flent}
use prog.Memory.{Memory}
use prog.Routine.{Routine}
use prog.Wp.{Env, Calls, Loops}
use types.Logic.{Logic, sem}
use contract.BorrowLft.{meet_⊑_left, meet_⊑_right}
use contract.Monad.{Fun, fact}
use types.InOut.{call as framed}
use types.Kit.{Item, Post, Seq, runs, lands, mean, ‵, raw, ◌⊛◌, ⋆, some, given, later, ◌$◌, ◌∵◌, !, qed, move, keep, drop, use1, use2, use3, split, split3, join, pick, learn, fsplit, fjoin, fpick, fpack, frame, await, updating, now as at_once, show, check, done}
use types.Run.{Opds, calls}
use types.SemTy.{Body}
use types.Tokens.{lft_new, lft_end}
use sound.WpLaws.{FmC}
use denote.Builtin.{usize}
use denote.RattleType.{RattleType}
use denote.Laws.{Is, shows}
use denote.Lend.{lends_ref, ref_back}
use denote.Memory.{mem, cell_at, part_of}
use denote.Ref.{MutBor, NamedLft, MutRef}
use denote.Steps.{owned, facts, heard, nothing}
use denote.Enum.Laws as EL
use denote.Struct.Steps.{spelt}
use denote.Triple.Statement.{Contract, Triple}
use denote.Triple.Clauses.{ensured, lasts}
use denote.Triple.Spec.{triple_of}
use denote.Triple.Walked.{says}
use Rattle.std.specs.Prelude.{Result}
use Rattle.flow.specs.Clauses.Parts.{answer_before, answer_through, place_after}
use Rattle.flow.specs.declared.Part.{Part}
use Rattle.flow.specs.declared.Refusal.{Refusal}
use Rattle.flow.specs.declared.reader.Reader.{Reader}
use Rattle.flow.specs.contracts.Part as P
use Rattle.flow.proofs.Part.TheLaws as P'
use Rattle.flow.specs.contracts.Refusal as F
use Rattle.std.specs.contracts.result.Result as S
use Rattle.flow.specs.contracts.reader.Reader as T
use Rattle.flow.proofs.reader.Reader.TheLaws as T'
use Rattle.flow.specs.contracts.reader.Reader.next as next
use Rattle.flow.proofs.reader.Reader.next.Symbol.{name as #next}

-- 'a as `next` has it, and the struct's type at it
abbrev pub lent_at : Lft → NamedLft
lent_at κ = record { mir = named 1; lft = κ }

abbrev pub lent_row : Lft → RattleType
lent_row κ = T.the_row (lent_at κ)

-- the type of what `next` returns
abbrev pub answer_row : RattleType
answer_row = S.the_row usize F.the_row

-- what `next` says of its result t and of the struct's last value
pub record Moved (d : Reader) (part : Part) (t : Result ℕ Refusal) (d' : Reader) : Type 0 where
  pub answer : t ≡ answer_through d.file.now part
  pub file : d'.file ≡ d.file
  pub so_far : d'.so_far ≡ t
  pub place : d'.at ≡ place_after t d.at

module _ {M : Type 1} {𝓤 : Ura M} (𝓛 : Logic 𝓤) (mem'' : Memory → SProp 𝓤) (run : Routine → Fun 𝓤) where
  abbrev pub Next : Contract 𝓤
  Next = triple_of 𝓛 next.signature (next.spec 𝓛 mem'' run)

-- a lifetime ν ∷ κ for a loan, where ν is new: its token is made of ν's, which is whole, and of half of κ's, and gives both back
module _ {M : Type 1} {𝓤 : Ura M} (𝓛 : Logic 𝓤) (κ : Lft) (q : Share) (ν : ℕ) where
  open 𝓛 use {A}

  abbrev Back : SProp 𝓤
  Back = wand 𝓤 (A.lft (ν ∷ []) (Fraction.left q)) (A.lft (ν ∷ []) full_share)

  enters : ent 𝓤 (sep 𝓤 (A.lft (ν ∷ []) full_share) (A.lft κ q)) (⋆ 𝓛 (‵ (flft (ν ∷ κ) (Fraction.left q)) ∷ ‵ (flft κ (Fraction.right q)) ∷ raw Back ∷ []))
  enters =
      qed 𝓛 (‵ (flft (ν ∷ []) full_share) ∷ ‵ (flft κ q) ∷ []) ∵
      use1 𝓛 (‵ (flft (ν ∷ []) (Fraction.left q)) ⊛ raw Back) (𝓛.lfts.lft_carve ν (Fraction.left q)) $ split ! $ move ! (2 ∷ []) $
      use1 𝓛 (‵ (flft κ (Fraction.left q)) ⊛ ‵ (flft κ (Fraction.right q))) (𝓛.lfts.lft_split κ q) $ split ! $ move ! (2 ∷ 0 ∷ []) $
      use2 𝓛 (‵ (flft (ν ∷ κ) (Fraction.left q))) (𝓛.lfts.lft_meet (ν ∷ []) κ (Fraction.left q)) $ done !

  leaves : ent 𝓤 (⋆ 𝓛 (‵ (flft (ν ∷ κ) (Fraction.left q)) ∷ ‵ (flft κ (Fraction.right q)) ∷ raw Back ∷ [])) (sep 𝓤 (A.lft (ν ∷ []) full_share) (A.lft κ q))
  leaves =
      qed 𝓛 (‵ (flft (ν ∷ κ) (Fraction.left q)) ∷ ‵ (flft κ (Fraction.right q)) ∷ raw Back ∷ []) ∵
      use1 𝓛 (‵ (flft (ν ∷ []) (Fraction.left q)) ⊛ ‵ (flft κ (Fraction.left q))) (𝓛.lfts.lft_unmeet (ν ∷ []) κ (Fraction.left q)) $ split ! $ move ! (0 ∷ 3 ∷ []) $
      use2 𝓛 (‵ (flft (ν ∷ []) full_share)) (apply∗ 𝓤 (A.lft (ν ∷ []) (Fraction.left q)) (A.lft (ν ∷ []) full_share)) $ move ! (1 ∷ 2 ∷ []) $ use2 𝓛 (‵ (flft κ q)) (𝓛.lfts.lft_join κ q) $ move ! (1 ∷ 0 ∷ []) $ done !

-- the struct in a local, as a loan takes it and gives it back
module _ {M : Type 1} {𝓤 : Ura M} (𝓛 : Logic 𝓤) (κ : Lft) (l : ℕ) (d : Reader) where
  abbrev pub cell : Fml
  cell = fat full_share (T'.mir erased) l 0 (T'.lowered (lent_at κ) d)

  abbrev pub owned_by : Fml
  owned_by = (lent_row κ).own_val d (T'.lowered (lent_at κ) d ∷ [])

  lies : ent 𝓤 (⋆ 𝓛 (‵ cell ∷ ‵ owned_by ∷ [])) (sem 𝓛 ((mem (lent_row κ)).own_at d l 0))
  unfolding part_of
  lies =
      qed 𝓛 (‵ cell ∷ ‵ owned_by ∷ []) ∵ use1 𝓛 (‵ (cell_at full_share (lent_row κ).mir (T'.lowered (lent_at κ) d ∷ []) l 0)) (𝓛.laws.at_raw full_share (T'.mir erased) l 0 (T'.lowered (lent_at κ) d)) $ fjoin ! $
      fpack ! (List Val) (λ vs. fsep (cell_at full_share (lent_row κ).mir vs l 0) ((lent_row κ).own_val d vs)) (T'.lowered (lent_at κ) d ∷ []) $ done !

  -- (the answer so far is an enum: its machine value is lowering's by an equation, which `lowers` has, and not by computation)
  stands : ent 𝓤 (sem 𝓛 ((mem (lent_row κ)).own_at d l 0)) (⋆ 𝓛 (‵ cell ∷ ‵ owned_by ∷ []))
  unfolding part_of
  stands =
      qed 𝓛 (‵ ((mem (lent_row κ)).own_at d l 0) ∷ []) ∵ fpick ! (λ vs. fsplit ! $ spelt ! (lent_row κ) (Is (lent_row κ)) (shows 𝓛 (lent_row κ)) (λ x. T'.lowered (lent_at κ) x ∷ []) (T'.lowers (lent_at κ)).val_is full_share d vs l 0 $
      use1 𝓛 (‵ cell) (𝓛.laws.raw_at full_share (T'.mir erased) l 0 (T'.lowered (lent_at κ) d)) $ done !)

module _ {M : Type 1} {𝓤 : Ura M} (𝓛 : Logic 𝓤) (mem'' : Memory → SProp 𝓤) (run : Routine → Fun 𝓤) (κ : Lft) (q : Share) (l : ℕ) (d : Reader) (part : Part) (p : Val)
    (is-part : Is P.the_row part (p ∷ [])) (judged : d.so_far ≡ answer_before d.file.now part) where
  -- the reference to the local, under the name δ
  open 𝓛 use {H}

  abbrev lent : GName → MutBor Reader
  lent δ = record { ref_ptr = (l, 0); ghost_name = δ; now = d }

  abbrev vs : List Val
  vs = vptr l 0 ∷ p ∷ []

  abbrev to_next : ℕ → GName → (Next 𝓛 mem'' run).Ghost
  to_next ν δ = (((ν ∷ κ, (κ, tt)), (Fraction.left q, (Fraction.right q, tt)), (meet_⊑_right (ν ∷ []) κ, tt), (lent δ, (part, tt)), (vptr l 0 ∷ [], (p ∷ [], tt))), tt)

  goes_next : (ν : ℕ) (δ : GName) → ent 𝓤 (⋆ 𝓛 (‵ (flft (ν ∷ κ) (Fraction.left q)) ∷ ‵ (flft κ (Fraction.right q)) ∷ ‵ ((MutRef (named 0) (ν ∷ κ) (lent_row κ)).own_val (lent δ) (vptr l 0 ∷ [])) ∷ [])) ((Next 𝓛 mem'' run).pre (to_next ν δ))
  goes_next ν δ =
      qed 𝓛 (‵ (flft (ν ∷ κ) (Fraction.left q)) ∷ ‵ (flft κ (Fraction.right q)) ∷ ‵ ((MutRef (named 0) (ν ∷ κ) (lent_row κ)).own_val (lent δ) (vptr l 0 ∷ [])) ∷ []) ∵ says ! judged $
      nothing ! $ move ! (2 ∷ 0 ∷ []) $ join ! $ move ! (1 ∷ 0 ∷ []) $ join ! $ frame ! $
      nothing ! $ owned ! P.the_row (Is P.the_row) (EL.makes P.the_type P'.the_plain 𝓛) part _ is-part $ fjoin ! $ move ! (1 ∷ 0 ∷ []) $ fjoin ! $ done !

  abbrev Said : Result ℕ Refusal → Reader → Type 0
  Said t d' = (t ≡ answer_through d.file.now part) × (d'.file ≡ d.file) × (d'.so_far ≡ t) × (d'.at ≡ place_after t d.at)

  -- what is had once the call has returned y: the local and 'a's token, as before it
  abbrev Had : Val → Result ℕ Refusal → Reader → Item 𝓤
  Had y t d' = given (Is answer_row t (y ∷ [])) (given (Moved d part t d') (‵ (cell 𝓛 κ l d') ⊛ ‵ (owned_by 𝓛 κ l d') ⊛ ‵ (flft κ q)))

  abbrev After : Val → Item 𝓤
  After y = later (some (λ (t : Result ℕ Refusal). some (λ (d' : Reader). Had y t d')))

  module _ (C : Calls 𝓤 H) (fm : FmC 𝓤 H 𝓛.laws C) (known_next : Triple 𝓤 (C #next) (Next 𝓛 mem'' run)) where
    asks : ent 𝓤 (⋆ 𝓛 (‵ (cell 𝓛 κ l d) ∷ ‵ (owned_by 𝓛 κ l d) ∷ ‵ (flft κ q) ∷ [])) (H.⇛ (C #next vs (λ y. mean 𝓛 (After y))))
    asks =
        qed 𝓛 (‵ (cell 𝓛 κ l d) ∷ ‵ (owned_by 𝓛 κ l d) ∷ ‵ (flft κ q) ∷ []) ∵ updating ! $
        use2 𝓛 (‵ ((mem (lent_row κ)).own_at d l 0)) (lies 𝓛 κ l d) $ lft_new ! tt (λ ν. move ! (1 ∷ []) $
        use1 𝓛 (later (some (λ (δ : GName). ‵ ((MutRef (named 0) (ν ∷ κ) (lent_row κ)).own_val (lent δ) (vptr l 0 ∷ [])) ⊛ ‵ (flent (ν ∷ κ) (Body (mem (lent_row κ)) l 0 δ))))) (lends_ref 𝓛 (lent_row κ) (named 0) (ν ∷ κ) d l 0) $ await ! tt $ pick ! (λ δ. split ! $
        -- [the reference; the lender's part; ν's token; 'a's token]
        move ! (2 ∷ 3 ∷ []) $ use2 𝓛 (‵ (flft (ν ∷ κ) (Fraction.left q)) ⊛ ‵ (flft κ (Fraction.right q)) ⊛ raw (Back 𝓛 κ q ν)) (enters 𝓛 κ q ν) $ split3 ! $
        move ! (0 ∷ 1 ∷ 3 ∷ []) $ use3 𝓛 (raw ((Next 𝓛 mem'' run).pre (to_next ν δ))) (goes_next ν δ) $
        -- [what `next` asks; the way back; the lender's part]
        use1 𝓛 (raw (C #next vs ((Next 𝓛 mem'' run).post (to_next ν δ)))) (known_next (to_next ν δ)) $ at_once ! $
        framed ! C fm #next vs (λ y. raw ((Next 𝓛 mem'' run).post (to_next ν δ) y)) (λ y. mean 𝓛 (After y)) (λ y. updating ! $
        use1 𝓛 (later (some (λ (t : Result ℕ Refusal). ((‵ (flft (ν ∷ κ) (Fraction.left q)) ⊛ ‵ (flft κ (Fraction.right q)) ⊛ ‵ ftrue) ⊛ ‵ (answer_row.own_val t (y ∷ []))) ⊛ raw (ensured 𝓛 next.ended (next.clauses 𝓛 mem'' run) (ν ∷ κ, (κ, tt)) (lent δ, (part, tt)) tt t)))) (id⊢ 𝓤 _) $ await ! tt $ pick ! (λ t.
        split ! $ move ! (1 ∷ []) $ use1 𝓛 (some (λ (zs : Reader × (Unit {0} × Unit {0})). ‵ (lasts next.ended (ν ∷ κ, (κ, tt)) (lent δ, (part, tt)) zs) ⊛ raw (fact 𝓤 (Said t zs.0)))) (id⊢ 𝓤 _) $ pick ! (λ zs.
        split ! $ move ! (1 ∷ []) $ heard ! (Said t zs.0) (λ e. fsplit ! $ move ! (2 ∷ []) $ split ! $ split3 ! $ move ! (3 ∷ []) $
        -- [the result; the loan's token; 'a's; …; the last value; …; the way back; the lender's part]
        facts ! answer_row (Is answer_row) (shows 𝓛 answer_row) t (y ∷ []) (λ is.
        move ! (0 ∷ 1 ∷ 5 ∷ []) $ use3 𝓛 (‵ (flft (ν ∷ []) full_share) ⊛ ‵ (flft κ q)) (leaves 𝓛 κ q ν) $ split ! $
        lft_end ! tt $ use1 𝓛 (‵ (fdead (ν ∷ κ))) (𝓛.lfts.dead-incl (ν ∷ κ) (ν ∷ []) (meet_⊑_left (ν ∷ []) κ)) $
        -- [ν ∷ κ is over; 'a's token; …; the last value; …; the lender's part]
        -- (a kept `&mut` leaves its borrow beside its last value)
        move ! (3 ∷ []) $ fsplit ! $ move ! (1 ∷ []) $ drop ! $ move ! (1 ∷ 5 ∷ 0 ∷ []) $ use3 𝓛 (later (‵ ((mem (lent_row κ)).own_at zs.0 l 0))) (ref_back 𝓛 (lent_row κ) (ν ∷ κ) δ zs.0 l 0) $ await ! tt $
        use1 𝓛 (‵ (cell 𝓛 κ l zs.0) ⊛ ‵ (owned_by 𝓛 κ l zs.0)) (stands 𝓛 κ l zs.0) $ split ! $ at_once ! $
        show ! (λ (t' : Result ℕ Refusal). mean 𝓛 (some (λ (d' : Reader). Had y t' d'))) t $ show ! (λ (d' : Reader). mean 𝓛 (Had y t d')) zs.0 $
        check ! is $ check ! (record { answer = e.0; file = e.1; so_far = e.2; place = e.3 }) $ keep ! (0 ∷ 1 ∷ 2 ∷ []) $ done !)))))))

    -- the step of a walk: the local's cell, what the reader owns and 'a's token stand at the head of the context, and stand there again once `next` has returned y
    pub reads_on : {K : Type 0} {Γ : List (Item 𝓤)} {Λ : Loops 𝓤 H} {E : Env 𝓤 H} {r : Post 𝓤 H} {xs : List Operand} {to : Place} {rest : Code} → K
        → Opds K 𝓛 (raw (C #next vs (λ y. mean 𝓛 (After y))) ∷ Γ) E xs vs
        → ((y : Val) (t : Result ℕ Refusal) (d' : Reader) → Is answer_row t (y ∷ []) → Moved d part t d' → Seq K 𝓛 (‵ (cell 𝓛 κ l d') ∷ ‵ (owned_by 𝓛 κ l d') ∷ ‵ (flft κ q) ∷ Γ) (lands C Λ E to y rest r))
        → Seq K 𝓛 (‵ (cell 𝓛 κ l d) ∷ ‵ (owned_by 𝓛 κ l d) ∷ ‵ (flft κ q) ∷ Γ) (runs C Λ E (seq (call #next xs to) rest) r)
    reads_on t os k =
        use3 𝓛 (later (raw (C #next vs (λ y. mean 𝓛 (After y))))) asks $ await t tt $
        calls t fm After os (λ y. await t tt $ pick t (λ t'. pick t (λ d'. learn t (λ is. learn t (λ moved. split3 t $ k y t' d' is moved)))))
