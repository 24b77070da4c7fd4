-- Where nothing waits, the live sets are those of the definitions: every live name is in its set, by the solver's law, and every name in a set is live.
-- So each word is the word of its live names, since a live name is below the number of names. Assumes nothing.
use Prim.Native.Nat.{ℕ, suc, ◌^◌, ◌<◌, zero-le}
use mathlib.Core.List.Memᴰ
use mathlib.Core.List.{List, []}
use mathlib.Core.Logic.{inl, inr, ⊎_elim}
use mathlib.Core.Path.{◌≡◌, sym, subst}
use native.Mathlib.Omega.{arith}
use lib.ListN.{get_or}
use Rattle.words.specs.Clauses.Row.{bit}
use Rattle.flow.specs.Format.{flow_of, names_of}
use Rattle.theory.specs.Live.{member, LiveIn, is_live_in, is_live_out, live_in_word, live_out_word}
use Rattle.theory.proofs.Lists.{same_test}
use Rattle.theory.proofs.Live.{is_live_in-sound, is_live_in-complete, is_live_out-sound, is_live_out-complete}
use Rattle.theory.proofs.Names.{names_word_unique}
use Rattle.statements.specs.Clauses.Ready.{Ready}
use Rattle.statements.proofs.WellFormed.{well_formed, names_is}
use Rattle.statements.proofs.Keeps.{ready-size}
use Rattle.statements.proofs.Names.{member-bit, bit-member, word_below, successor_in, written-word}
use Rattle.solve.specs.Clauses.Sets.{Comes}
use Rattle.solve.proofs.Sets.{takes_all, complete}
use Rattle.live.specs.Clauses.Solving.{backward, HandedOn, Solving}
use Rattle.live.proofs.Bits.{transfer-has}
use Rattle.live.proofs.Walks.{in_leaves, out-comes, in_name, out_name}
use Rattle.live.proofs.Solving.{out-word, lawful}

module _ {s ws ins outs : List ℕ} {n : ℕ} (r : Ready s ws n) (h : Solving (flow_of s) 0 n ins outs []) where
  done : (j : ℕ) → j < n → HandedOn (flow_of s) 0 n ins outs j
  done j l = ⊎_elim (λ m. absurd (Memᴰ.not-nil m)) (λ t. t) (h.handed_on j l)

  all : {x i : ℕ} → i < n → Comes (backward (flow_of s)) x i → bit (get_or outs i 0) x ≡ 1
  all {x} l c = complete takes_all (lawful r h (suc x)) (λ k b m. Memᴰ.not-nil m) (successor_in r) l (omega arith) c

  in_complete : {x i : ℕ} → i < n → LiveIn (flow_of s) x i → bit (get_or ins i 0) x ≡ 1
  in_complete {x} {i} l e =
      subst (λ z. bit z x ≡ 1) (sym ((done i l).equation zero-le))
      (transfer-has (flow_of s) i (get_or outs i 0) x (out-word r h i l) (written-word r i) (⊎_elim (λ d. inl d) (λ t. inr (t.0, all l t.1)) (in_leaves e)))

  names : {w : ℕ} → w < 2 ^ names_of s → w < 2 ^ (flow_of s).names
  names {w} l = subst (λ z. w < 2 ^ z) (sym (names_is s)) l

  pub solved_in : (i : ℕ) → i < n → get_or ins i 0 ≡ live_in_word (flow_of s) i
  unfolding live_in_word
  solved_in i l =
      names_word_unique (flow_of s) (λ x. is_live_in (flow_of s) x i) (get_or ins i 0)
      (names (word_below (get_or ins i 0) (names_of s) (λ x e. in_name r (h.sound_in i x l e))))
      (λ x b. same_test (member (get_or ins i 0) x) (is_live_in (flow_of s) x i)
      (λ e. is_live_in-complete (well_formed r.fit) (let size = ready-size r in omega arith) (h.sound_in i x l (member-bit (get_or ins i 0) x e)))
      (λ e. bit-member (get_or ins i 0) x (in_complete l (is_live_in-sound (flow_of s) x i e))))

  pub solved-out : (i : ℕ) → i < n → get_or outs i 0 ≡ live_out_word (flow_of s) i
  unfolding live_out_word
  solved-out i l =
      names_word_unique (flow_of s) (λ x. is_live_out (flow_of s) x i) (get_or outs i 0)
      (names (word_below (get_or outs i 0) (names_of s) (λ x e. out_name r (h.sound_out i x zero-le l e))))
      (λ x b. same_test (member (get_or outs i 0) x) (is_live_out (flow_of s) x i)
      (λ e. is_live_out-complete (well_formed r.fit) (h.sound_out i x zero-le l (member-bit (get_or outs i 0) x e)))
      (λ e. bit-member (get_or outs i 0) x (all l (out-comes (is_live_out-sound (flow_of s) x i e)))))
