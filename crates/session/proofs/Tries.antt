-- Small sessions run through the book's definitions: document 01's own, and one for each reading to guard against.
use Prim.Native.Nat.{ℕ, ◌+◌}
use mathlib.Core.Bool.{true, false, false≢true}
use mathlib.Core.Path.{◌≡◌, refl, ap, sym, ◌∙◌}
use mathlib.Core.List.Memᴰ
use mathlib.Core.List.{[], ◌∷◌, ◌++◌}
use mathlib.Core.Logic.{◌⊎◌, inl, inr, ⊎_elim}
use native.Mathlib.Omega.{arith}
use lib.ListN.{length, length-append}
use Rattle.octets.specs.Numbers.{bound}
use Rattle.marks.specs.Incarnation.{Incarnation, Checkpointed, begins, same_list, begins_with, strict_prefix, superseded_by}
use Rattle.marks.specs.Relation.{by_numbers, by_next_entry, relation_of}
use Rattle.marks.proofs.Order.{checkpointed-irrefl}
use Rattle.octets.specs.Table.{updated}
use Rattle.octets.specs.Bytes.{any}
use Rattle.rules.specs.Layout.{base}
use Rattle.rules.specs.Step.{freeze, fail}
use Rattle.rules.specs.Refusals.{named, any_named, malformed, not_waiting, empty_group, unopened, is_gone, wrong_status, unrelated_receipt, all_opened, all_waiting, all_numbered, all_checkpointed, at_last, last_rolls_back, refusal_of}
use Rattle.session.specs.Provenance.{In, one, idle, busy, annihilated, is-idle, is-busy, Provenance, empty_provenance, remove, find, is_missing, any_entry, superseded_entry, any_superseded}
use Rattle.session.specs.Grounds.{from_start, from-noted, from_list, Ground, in-state, in-creation, RestsOn, ValueRestsOn, Present, CheckpointedNow, SupersededOrAnnihilated, gone, neither, Equal}
use Rattle.session.specs.Unrelated.{unrelated_entry, any_unrelated, is_unrelated_to}
use Rattle.session.specs.Steps.{rolled_back_holder, reads, writes, freezes, finishes, rolls_back_or_finishes, rolls_back_or_stays, acted, is_dropped, is_rolled_back, received, signs, checkpointed_at, NotedBy, before, now-checkpointed, opens_root, opens_child, receives, applied, provenance_seen, provenance_refusal, signing, not-ready}
use Rattle.session.proofs.Sets.{in_one}
use Rattle.session.proofs.Accepted.{named-within}
use Rattle.session.specs.Play.{wide_provenance, a_root, a_letter, a_receive, a_step, a_sign, Play, end, then, After, played}
use Rattle.session.specs.Sessions.{first_nine, first_eleven, thirteen, carried_on, up_to_signing, old_message, then_rolled_back, then_told, unread_steps, read_steps, child_steps, opener_steps, small_limits, small_steps, receive_and_freeze, small_provenance, used_provenance, incarnation0, incarnation1, incarnation2, incarnation3, child, holder, strange, pasted_provenance}
use Rattle.session.proofs.Plays.{play-on, quiet, play-quiet, played-notes, entry-cases, ground-state, differs, brings-itself, alone-equal, pair-equal, only-3, only-6}

-- ---- document 01's session

provenance9 : Provenance
provenance9 = played wide_provenance first_nine

provenance11 : Provenance
provenance11 = played provenance9 (a_step freeze 0 ∷ [])

provenance13 : Provenance
provenance13 = played (signs provenance11 3) (a_step fail 0 ∷ [])

carried_provenance : Provenance
carried_provenance = played (signs provenance11 3) carried_on

-- ---- sessions in which take 0 is signed at its opening life

uncheckpointed_provenance : Provenance
uncheckpointed_provenance = played wide_provenance up_to_signing

checkpointed_provenance : Provenance
checkpointed_provenance = signs uncheckpointed_provenance 1

old_provenance : Provenance
old_provenance = played checkpointed_provenance old_message

rolled_back_provenance : Provenance
rolled_back_provenance = played checkpointed_provenance then_rolled_back

again_provenance : Provenance
again_provenance = signs rolled_back_provenance 1

told_provenance : Provenance
told_provenance = played checkpointed_provenance then_told

-- ---- a sender that has not read, and then has

unread_provenance : Provenance
unread_provenance = played wide_provenance unread_steps

read_provenance : Provenance
read_provenance = played unread_provenance read_steps

-- ---- a take that opens another

child_provenance : Provenance
child_provenance = played wide_provenance child_steps

opener_provenance : Provenance
opener_provenance = played child_provenance (a_step freeze 0 ∷ [])

-- ---- what computes

record Computed : Type 0 where
  quiet-9 : quiet wide_provenance first_nine ≡ true
  zero-9 : provenance9.holders 0 ≡ holder busy false incarnation0 (one 0 incarnation0) []
  one-9 : provenance9.holders 1 ≡ holder busy true incarnation0 (one 0 incarnation0 ++ one 1 incarnation0) (one 0 incarnation0)
  sign-10 : provenance_refusal base provenance9 (a_sign 2) ≡ 0
  quiet-11 : quiet provenance9 (a_step freeze 0 ∷ []) ≡ true
  zero-11 : provenance11.holders 0 ≡ holder busy true incarnation0 (one 0 incarnation0) []
  one-11 : provenance11.holders 1 ≡ holder busy true incarnation0 (one 0 incarnation0 ++ one 1 incarnation0) (one 0 incarnation0)
  sign-12 : provenance_refusal base provenance11 (a_sign 3) ≡ 0
  quiet-13 : quiet (signs provenance11 3) (a_step fail 0 ∷ []) ≡ true
  zero-13 : provenance13.holders 0 ≡ holder idle false incarnation2 (one 0 incarnation2) []
  one-13 : provenance13.holders 1 ≡ holder idle false incarnation1 (one 1 incarnation1) []
  quiet-carried : quiet (signs provenance11 3) carried_on ≡ true
  zero-carried : carried_provenance.holders 0 ≡ holder idle false incarnation1 (one 0 incarnation1) []
  one-carried : carried_provenance.holders 1 ≡ holder busy true incarnation1 (one 1 incarnation1) []
  two-carried : carried_provenance.holders 2 ≡ holder busy true incarnation0 (one 1 incarnation1 ++ one 2 incarnation0) (one 1 incarnation1)
  sign-carried : provenance_refusal base carried_provenance (a_sign 6) ≡ 0
  quiet-uncheckpointed : quiet wide_provenance up_to_signing ≡ true
  zero-uncheckpointed : uncheckpointed_provenance.holders 0 ≡ holder busy true incarnation0 (one 0 incarnation0) []
  sign-uncheckpointed : provenance_refusal base uncheckpointed_provenance (a_sign 1) ≡ 0
  quiet-old : quiet checkpointed_provenance old_message ≡ true
  one-old : old_provenance.holders 1 ≡ holder busy false incarnation0 (one 0 incarnation2 ++ one 1 incarnation0) (one 0 incarnation0)
  quiet-rolled_back : quiet checkpointed_provenance then_rolled_back ≡ true
  zero-rolled_back : rolled_back_provenance.holders 0 ≡ holder busy true incarnation2 (one 0 incarnation2) []
  sign-rolled_back : provenance_refusal base rolled_back_provenance (a_sign 1) ≡ 0
  zero-again : again_provenance.holders 0 ≡ holder idle false incarnation3 (one 0 incarnation3) []
  one_again : again_provenance.holders 1 ≡ holder busy true incarnation0 (one 0 incarnation1 ++ one 1 incarnation0) (one 0 incarnation1)
  quiet_told : quiet checkpointed_provenance then_told ≡ true
  one_told : told_provenance.holders 1 ≡ holder idle true incarnation0 (one 0 incarnation1 ++ one 1 incarnation0) []
  quiet-gone : quiet told_provenance (a_receive 5 ∷ []) ≡ true
  one-gone : ((played told_provenance (a_receive 5 ∷ [])).holders 1).status ≡ annihilated
  quiet-unread : quiet wide_provenance unread_steps ≡ true
  one-unread : (unread_provenance.holders 1).state ≡ one 0 incarnation0 ++ one 1 incarnation0
  sent-unread : (find 3 unread_provenance.messages).incarnations ≡ one 1 incarnation0
  quiet_read : quiet unread_provenance read_steps ≡ true
  sent-read : (find 4 read_provenance.messages).incarnations ≡ one 0 incarnation0 ++ one 1 incarnation0 ++ one 1 incarnation0
  quiet-child : quiet wide_provenance child_steps ≡ true
  zero-child : child_provenance.holders 0 ≡ holder busy false incarnation0 (one 0 incarnation0) (one 1 incarnation0)
  one-child : child_provenance.holders 1 ≡ child busy true incarnation0 (one 1 incarnation0) (one 0 incarnation0) []
  sign-child : provenance_refusal base child_provenance (a_sign 2) ≡ 0
  quiet-opener : quiet child_provenance (a_step freeze 0 ∷ []) ≡ true
  zero-opener : opener_provenance.holders 0 ≡ holder busy true incarnation0 (one 0 incarnation0) (one 1 incarnation0)
  one-opener : opener_provenance.holders 1 ≡ child busy true incarnation0 (one 1 incarnation0) (one 0 incarnation0) []
  sign-opener : provenance_refusal base opener_provenance (a_sign 3) ≡ 0
  quiet_small : quiet (empty_provenance small_limits) small_steps ≡ true
  third-take : provenance_refusal base small_provenance (a_root 4) ≡ 25
  second-message : provenance_refusal base small_provenance (a_letter 0 5) ≡ 26
  first-checkpoint : provenance_refusal base (played small_provenance (receive_and_freeze 0)) (a_sign 1) ≡ 0
  second-checkpoint : provenance_refusal base used_provenance (a_sign 1) ≡ 30
  pasted-state : provenance_refusal base (pasted_provenance (one 1 strange) []) (a_receive 0) ≡ 31
  pasted-creation : provenance_refusal base (pasted_provenance [] (one 1 strange)) (a_receive 0) ≡ 31
  pasted-other : provenance_refusal base (pasted_provenance (one 0 strange) []) (a_receive 0) ≡ 0
  pasted-related : provenance_refusal base (pasted_provenance (one 1 incarnation0) []) (a_receive 0) ≡ 0

computed : Computed
unfolding bound small_provenance used_provenance quiet played provenance_refusal provenance_seen refusal_of malformed not_waiting empty_group unopened is_gone wrong_status unrelated_receipt all_opened all_waiting all_numbered all_checkpointed at_last last_rolls_back any named any_named updated remove find is_missing any_entry superseded_entry any_superseded same_list begins_with strict_prefix superseded_by rolled_back_holder reads writes freezes finishes rolls_back_or_finishes rolls_back_or_stays acted is_dropped is_rolled_back received opens_root opens_child receives applied checkpointed_at provenance9 provenance11 provenance13 carried_provenance uncheckpointed_provenance checkpointed_provenance old_provenance rolled_back_provenance again_provenance told_provenance unread_provenance read_provenance child_provenance opener_provenance is_unrelated_to unrelated_entry any_unrelated relation_of by_numbers by_next_entry
computed = record {
  quiet-9 = refl;
  zero-9 = refl;
  one-9 = refl;
  sign-10 = refl;
  quiet-11 = refl;
  zero-11 = refl;
  one-11 = refl;
  sign-12 = refl;
  quiet-13 = refl;
  zero-13 = refl;
  one-13 = refl;
  quiet-carried = refl;
  zero-carried = refl;
  one-carried = refl;
  two-carried = refl;
  sign-carried = refl;
  quiet-uncheckpointed = refl;
  zero-uncheckpointed = refl;
  sign-uncheckpointed = refl;
  quiet-old = refl;
  one-old = refl;
  quiet-rolled_back = refl;
  zero-rolled_back = refl;
  sign-rolled_back = refl;
  zero-again = refl;
  one_again = refl;
  quiet_told = refl;
  one_told = refl;
  quiet-gone = refl;
  one-gone = refl;
  quiet-unread = refl;
  one-unread = refl;
  sent-unread = refl;
  quiet_read = refl;
  sent-read = refl;
  quiet-child = refl;
  zero-child = refl;
  one-child = refl;
  sign-child = refl;
  quiet-opener = refl;
  zero-opener = refl;
  one-opener = refl;
  sign-opener = refl;
  quiet_small = refl;
  third-take = refl;
  second-message = refl;
  first-checkpoint = refl;
  second-checkpoint = refl;
  pasted-state = refl;
  pasted-creation = refl;
  pasted-other = refl;
  pasted-related = refl;
}

-- ---- document 01's session, through the book

-- take 1 rests on the unsigned life of take 0, which volume 2 does not name
differ-2 : (b : Provenance) → Ground (b.holders 1) 0 incarnation0 → (b.holders 0).history.incarnation ≡ incarnation0 → Equal b 2 → ⊥
unfolding named
differ-2 b g e = differs 1 refl (from_start g) (λ s. checkpointed-irrefl (rw e at s.is)) (λ f. false≢true f.named)

none-11 : (t : ℕ) (a : Incarnation) (u : ℕ) (c : Incarnation) → provenance11.noted t a u c → ⊥
unfolding provenance9 provenance11
none-11 t a u c x = (played-notes wide_provenance first_nine t a u c).0 ((played-notes provenance9 (a_step freeze 0 ∷ []) t a u c).0 x)

-- both takes are frozen, and rest on nothing but the two
equal-3 : Equal provenance11 3
unfolding named
equal-3 = pair-equal only-3 refl refl (λ t a u c x. absurd (none-11 t a u c x))
    (record { is = computed.zero-11; live = is-busy; stable = refl; own = Memᴰ.head refl })
    (record { is = computed.one-11; live = is-busy; stable = refl; own = Memᴰ.tail (Memᴰ.head refl) })
    (λ u a. ⊎_elim (λ g. inl (in_one (ground-state refl u a g))) (λ g. ⊎_elim inl (λ i. inr (in_one i)) (entry-cases (ground-state refl u a g))))

differ-9 : Equal provenance9 2 → ⊥
differ-9 = differ-2 provenance9 (rw computed.one-9 (in-state (Memᴰ.head refl))) (rw computed.zero-9)

play-9 : Play wide_provenance first_nine provenance9
unfolding provenance9
play-9 = play-quiet wide_provenance first_nine computed.quiet-9

play-11 : Play wide_provenance first_eleven provenance11
unfolding provenance11
play-11 = play-on play-9 (then (not-ready computed.sign-10 refl differ-9) (play-quiet provenance9 (a_step freeze 0 ∷ []) computed.quiet-11))

play-13 : Play wide_provenance thirteen provenance13
unfolding provenance13
play-13 = play-on play-11 (then (signing computed.sign-12 refl equal-3) (play-quiet (signs provenance11 3) (a_step fail 0 ∷ []) computed.quiet-13))

-- step 10: the two sets differ
pub document-10 : After first_nine (λ b. Equal b 2 → ⊥)
document-10 = record { provenance = provenance9; play = play-9; holds = differ-9 }

-- step 12: they are equal
pub document-12 : After first_eleven (λ b. Equal b 3)
document-12 = record { provenance = provenance11; play = play-11; holds = equal-3 }

-- step 13: take 0 has fallen back to its signed text, take 1 stands
pub document-13 : After thirteen (λ b. (b.holders 0 ≡ holder idle false incarnation2 (one 0 incarnation2) []) × (b.holders 1 ≡ holder idle false incarnation1 (one 1 incarnation1) []))
document-13 = record { provenance = provenance13; play = play-13; holds = (computed.zero-13, computed.one-13) }

-- ---- what signed texts rest on

-- what take t rests on at step 12: the life of take 0, and take 1 on its own too
data Rests12 (t u : ℕ) (a : Incarnation) : Type 0 where
  on-0 : u ≡ 0 → a ≡ incarnation0 → Rests12 t u a
  on-1 : t ≡ 1 → u ≡ 1 → a ≡ incarnation0 → Rests12 t u a

rests-11 : (t : ℕ) → named 3 t ≡ true → (u : ℕ) (a : Incarnation) → RestsOn provenance11 t u a → Rests12 t u a
rests-11 t n u a r = start t (only-3 t n) u a (brings-itself none-11 (λ u a g. first (start t (only-3 t n) u a g)) u a r)
  where
    start : (t : ℕ) → (t ≡ 0) ⊎ (t ≡ 1) → (u : ℕ) (a : Incarnation) → Ground (provenance11.holders t) u a → Rests12 t u a
    start t (inl e) u a g = let i = in_one (ground-state refl u a (rw (e, computed.zero-11) at g)) in on-0 i.0 i.1
    start t (inr e) u a g = ⊎_elim (λ i. on-0 i.0 i.1) (λ i. let k = in_one i in on-1 e k.0 k.1) (entry-cases (ground-state refl u a (rw (e, computed.one-11) at g)))

    first : {t u : ℕ} {a : Incarnation} → Rests12 t u a → a.checkpoints ≡ []
    first (on-0 i e) = ap (λ (x : Incarnation). x.checkpoints) e
    first (on-1 n i e) = ap (λ (x : Incarnation). x.checkpoints) e

-- what was noted at step 12
notes-12 : (t : ℕ) (a : Incarnation) (u : ℕ) (c : Incarnation) → (signs provenance11 3).noted t a u c → Rests12 t u c
notes-12 t a u c (before x) = absurd (none-11 t a u c x)
notes-12 t a u c (now-checkpointed n e r) = rests-11 t n u c r

-- The text that take 0 signed at step 12 rests on the life at which it was signed, and on no other: not on that of take 1,
-- which was signed with it.
pub value-alone : After thirteen (λ b. ValueRestsOn b 0 incarnation0 0 incarnation0 × ((u : ℕ) (a : Incarnation) → ValueRestsOn b 0 incarnation0 u a → (u ≡ 0) × (a ≡ incarnation0)))
unfolding provenance13 named
value-alone = record { provenance = provenance13; play = play-13; holds = (from_start own, only) }
  where
    own : provenance13.noted 0 incarnation0 0 incarnation0
    own = (played-notes (signs provenance11 3) (a_step fail 0 ∷ []) 0 incarnation0 0 incarnation0).1
        (now-checkpointed refl (rw computed.zero-11) (from_start (let i : In 0 incarnation0 (provenance11.holders 0).state = rw computed.zero-11 (Memᴰ.head refl) in in-state i)))

    zero-only : {t u : ℕ} {a : Incarnation} → t ≡ 0 → Rests12 t u a → (u ≡ 0) × (a ≡ incarnation0)
    zero-only z (on-0 i e) = (i, e)
    zero-only z (on-1 n i e) = absurd (omega arith)

    noted-0 : (u : ℕ) (a : Incarnation) (t : ℕ) (c : Incarnation) → t ≡ 0 → provenance13.noted t c u a → (u ≡ 0) × (a ≡ incarnation0)
    noted-0 u a t c z x = zero-only z (notes-12 t c u a ((played-notes (signs provenance11 3) (a_step fail 0 ∷ []) t c u a).0 x))

    only : (u : ℕ) (a : Incarnation) → ValueRestsOn provenance13 0 incarnation0 u a → (u ≡ 0) × (a ≡ incarnation0)
    only u a (from_start x) = noted-0 u a 0 incarnation0 refl x
    only u a (from-noted {t = t} {a = c} x y) = noted-0 u a t c (only t c x).0 y
    only u c (from_list {a = a} x e) =
        let n : 0 ≡ length c.checkpoints + 1 = ap length (sym (ap (λ (z : Incarnation). z.checkpoints) (only u a x).1) ∙ e) ∙ length-append c.checkpoints (c.number ∷ []) in
        absurd (omega arith)

-- all that was noted at step 12 is signed, when the session is carried on
noted-carried : (t : ℕ) (a : Incarnation) (u : ℕ) (c : Incarnation) → carried_provenance.noted t a u c → CheckpointedNow carried_provenance u c
unfolding carried_provenance
noted-carried t a u c x = go (notes-12 t a u c ((played-notes (signs provenance11 3) carried_on t a u c).0 x))
  where
    go : Rests12 t u c → CheckpointedNow carried_provenance u c
    go (on-0 i e) = rw (i, e) (record { live = rw computed.zero-carried is-idle; is = rw computed.zero-carried (begins [] refl) })
    go (on-1 n i e) = rw (i, e) (record { live = rw computed.one-carried is-busy; is = rw computed.one-carried (begins [] refl) })

equal-carried : Equal carried_provenance 6
unfolding named
equal-carried = pair-equal only-6 refl refl noted-carried
    (record { is = computed.one-carried; live = is-busy; stable = refl; own = Memᴰ.head refl })
    (record { is = computed.two-carried; live = is-busy; stable = refl; own = Memᴰ.tail (Memᴰ.head refl) })
    (λ u a. ⊎_elim (λ g. inl (in_one (ground-state refl u a g))) (λ g. ⊎_elim inl (λ i. inr (in_one i)) (entry-cases (ground-state refl u a g))))

-- Over two signings: the text that take 2 signs rests on the life of take 0 that step 12 signed, though no set of take 2 held
-- it. Its state holds the second life of take 1; that brings in the life signed last before it, and this what was noted for it.
pub value-rests : After (first_eleven ++ (a_sign 3 ∷ []) ++ carried_on ++ (a_sign 6 ∷ [])) (λ b. ValueRestsOn b 2 incarnation0 0 incarnation0)
unfolding carried_provenance named
value-rests = record {
  provenance = signs carried_provenance 6;
  play = play-on (play-on (play-on play-11 (then (signing computed.sign-12 refl equal-3) end)) (play-quiet (signs provenance11 3) carried_on computed.quiet-carried))
      (then (signing computed.sign-carried refl equal-carried) end);
  holds = from_start (now-checkpointed refl (rw computed.two-carried) (from-noted (from_list {c = incarnation0} present refl) noted-1));
}
  where
    present : RestsOn carried_provenance 2 1 incarnation1
    present = let i : In 1 incarnation1 (carried_provenance.holders 2).state = rw computed.two-carried (Memᴰ.head refl) in from_start (in-state i)

    noted-1 : carried_provenance.noted 1 incarnation0 0 incarnation0
    noted-1 = (played-notes (signs provenance11 3) carried_on 1 incarnation0 0 incarnation0).1
        (now-checkpointed refl (rw computed.one-11) (from_start (let i : In 0 incarnation0 (provenance11.holders 1).state = rw computed.one-11 (Memᴰ.head refl) in in-state i)))

-- ---- take 0 signed, once and again

none-uncheckpointed : (t : ℕ) (a : Incarnation) (u : ℕ) (c : Incarnation) → uncheckpointed_provenance.noted t a u c → ⊥
unfolding uncheckpointed_provenance
none-uncheckpointed t a u c x = (played-notes wide_provenance up_to_signing t a u c).0 x

-- take 0 rested on its opening life alone
only-0 : (t : ℕ) → named 1 t ≡ true → (u : ℕ) (c : Incarnation) → RestsOn uncheckpointed_provenance t u c → (u ≡ 0) × (c ≡ incarnation0)
only-0 t n u c r = opening u c (brings-itself none-uncheckpointed (λ u a g. ap (λ (x : Incarnation). x.checkpoints) (opening u a g).1) u c r)
  where
    opening : (u : ℕ) (a : Incarnation) → Ground (uncheckpointed_provenance.holders t) u a → (u ≡ 0) × (a ≡ incarnation0)
    opening u a g =
        let z : t ≡ 0 = omega (arith, named-within 1 1 t (omega arith) n) in
        in_one (ground-state refl u a (rw (z, computed.zero-uncheckpointed) at g))

equal-uncheckpointed : Equal uncheckpointed_provenance 1
equal-uncheckpointed = alone-equal computed.zero-uncheckpointed refl refl is-busy refl (λ t a u c x. absurd (none-uncheckpointed t a u c x))

play-checkpointed : Play wide_provenance (up_to_signing ++ (a_sign 1 ∷ [])) checkpointed_provenance
unfolding uncheckpointed_provenance checkpointed_provenance
play-checkpointed = play-on (play-quiet wide_provenance up_to_signing computed.quiet-uncheckpointed) (then (signing computed.sign-uncheckpointed refl equal-uncheckpointed) end)

-- what was noted at the first signing is signed
noted-checkpointed : (t : ℕ) (a : Incarnation) (u : ℕ) (c : Incarnation) → rolled_back_provenance.noted t a u c → CheckpointedNow rolled_back_provenance u c
unfolding rolled_back_provenance checkpointed_provenance
noted-checkpointed t a u c x = go ((played-notes checkpointed_provenance then_rolled_back t a u c).0 x)
  where
    go : NotedBy uncheckpointed_provenance 1 t a u c → CheckpointedNow rolled_back_provenance u c
    go (before x) = absurd (none-uncheckpointed t a u c x)
    go (now-checkpointed n e r) = let i = only-0 t n u c r in rw (i.0, i.1) (record { live = rw computed.zero-rolled_back is-busy; is = rw computed.zero-rolled_back (begins [] refl) })

equal-rolled_back : Equal rolled_back_provenance 1
equal-rolled_back = alone-equal computed.zero-rolled_back refl refl is-busy refl noted-checkpointed

-- ---- the readings to guard against

-- "Comparing n alone: after a signing n starts at 0." Take 1 knows life 1 of take 0 after a signing; a parcel with life 0 from
-- before that signing is not stale by it, and is taken in.
pub number-alone : After (up_to_signing ++ (a_sign 1 ∷ []) ++ old_message) (λ b. b.holders 1 ≡ holder busy false incarnation0 (one 0 incarnation2 ++ one 1 incarnation0) (one 0 incarnation0))
unfolding old_provenance
number-alone = record { provenance = old_provenance; play = play-on play-checkpointed (play-quiet checkpointed_provenance old_message computed.quiet-old); holds = computed.one-old }

-- "Treating a withdrawn life before a signing as mended by it." Take 1 rests on a life of take 0 that was withdrawn before take
-- 0 was signed again: it stays withdrawn, and no volume with take 1 can be signed.
pub not-mended : After (up_to_signing ++ (a_sign 1 ∷ []) ++ then_rolled_back ++ (a_sign 1 ∷ [])) (λ b. SupersededOrAnnihilated b 0 incarnation1 × ((g : ℕ) → named g 1 ≡ true → Equal b g → ⊥))
unfolding rolled_back_provenance again_provenance
not-mended = record {
  provenance = again_provenance;
  play = play-on (play-on play-checkpointed (play-quiet checkpointed_provenance then_rolled_back computed.quiet-rolled_back)) (then (signing computed.sign-rolled_back refl equal-rolled_back) end);
  holds = (neither not-present not-checkpointed, λ g n. differs 1 n rests not-checkpointed (λ f. not-present f.present));
}
  where
    rests : RestsOn again_provenance 1 0 incarnation1
    rests = let i : In 0 incarnation1 (again_provenance.holders 1).state = rw computed.one_again (Memᴰ.head refl) in from_start (in-state i)

    uncheckpointed : Checkpointed incarnation1 incarnation3 → ⊥
    uncheckpointed (begins r e) = let z : ◌≡◌ {A = ℕ} 0 1 = cc in omega arith

    absent : incarnation1 ≡ incarnation3 → ⊥
    absent e = let z : ◌≡◌ {A = ℕ} 1 2 = ap (λ (a : Incarnation). length a.checkpoints) e in omega arith

    not-present : Present again_provenance 0 incarnation1 → ⊥
    not-present p = absent (rw computed.zero-again at p.is)

    not-checkpointed : CheckpointedNow again_provenance 0 incarnation1 → ⊥
    not-checkpointed s = uncheckpointed (rw computed.zero-again at s.is)

-- "Sparing a frozen take when a parcel shows that its ground fell." Take 1 is frozen; parcel 5 shows that its ground fell.
pub still-stable : After (up_to_signing ++ (a_sign 1 ∷ []) ++ then_told) (λ b. b.holders 1 ≡ holder idle true incarnation0 (one 0 incarnation1 ++ one 1 incarnation0) [])
unfolding told_provenance
still-stable = record { provenance = told_provenance; play = play-on play-checkpointed (play-quiet checkpointed_provenance then_told computed.quiet_told); holds = computed.one_told }

pub not_spared : After (up_to_signing ++ (a_sign 1 ∷ []) ++ then_told ++ (a_receive 5 ∷ [])) (λ b. ((b.holders 1).status ≡ annihilated) × SupersededOrAnnihilated b 1 incarnation0)
unfolding told_provenance
not_spared = record {
  provenance = played told_provenance (a_receive 5 ∷ []);
  play = play-on (play-on play-checkpointed (play-quiet checkpointed_provenance then_told computed.quiet_told)) (play-quiet told_provenance (a_receive 5 ∷ []) computed.quiet-gone);
  holds = (computed.one-gone, gone computed.one-gone);
}

-- "Sending the state map with a parcel whose sender has not read." Take 1 has a life of take 0 in its state; what it sends holds
-- that life only once it has read.
pub unread-sent : After unread_steps (λ b. ((b.holders 1).state ≡ one 0 incarnation0 ++ one 1 incarnation0) × ((find 3 b.messages).incarnations ≡ one 1 incarnation0))
unfolding unread_provenance
unread-sent = record { provenance = unread_provenance; play = play-quiet wide_provenance unread_steps computed.quiet-unread; holds = (computed.one-unread, computed.sent-unread) }

pub read-sent : After (unread_steps ++ read_steps) (λ b. (find 4 b.messages).incarnations ≡ one 0 incarnation0 ++ one 1 incarnation0 ++ one 1 incarnation0)
unfolding unread_provenance read_provenance
read-sent = record { provenance = read_provenance; play = play-on (play-quiet wide_provenance unread_steps computed.quiet-unread) (play-quiet unread_provenance read_steps computed.quiet_read); holds = computed.sent-read }

-- "Signing a take alone because each of its grounds is frozen." In document 01's session after step 11 both takes are frozen;
-- take 1 alone can't be signed.
pub not-alone : After first_eleven (λ b. Equal b 2 → ⊥)
not-alone = record { provenance = provenance11; play = play-11; holds = differ-2 provenance11 (rw computed.one-11 (in-state (Memᴰ.head refl))) (rw computed.zero-11) }

-- ---- a creation set decides a signing

differ-child : Equal child_provenance 2 → ⊥
differ-child = differ-2 child_provenance (rw computed.one-child (in-creation (Memᴰ.head refl))) (rw computed.zero-child)

none-opener : (t : ℕ) (a : Incarnation) (u : ℕ) (c : Incarnation) → opener_provenance.noted t a u c → ⊥
unfolding child_provenance opener_provenance
none-opener t a u c x = (played-notes wide_provenance child_steps t a u c).0 ((played-notes child_provenance (a_step freeze 0 ∷ []) t a u c).0 x)

-- the child rests on its own life, and on its opener's by its creation set
child-rests : (u : ℕ) (a : Incarnation) → Ground (child busy true incarnation0 (one 1 incarnation0) (one 0 incarnation0) []) u a → ((u ≡ 0) × (a ≡ incarnation0)) ⊎ ((u ≡ 1) × (a ≡ incarnation0))
child-rests u a (in-state i) = inr (in_one i)
child-rests u a (in-creation i) = inl (in_one i)

equal-opener : Equal opener_provenance 3
unfolding named
equal-opener = pair-equal only-3 refl refl (λ t a u c x. absurd (none-opener t a u c x))
    (record { is = computed.zero-opener; live = is-busy; stable = refl; own = Memᴰ.head refl })
    (record { is = computed.one-opener; live = is-busy; stable = refl; own = Memᴰ.head refl })
    (λ u a. ⊎_elim (λ g. inl (in_one (ground-state refl u a g))) (child-rests u a))

play-child : Play wide_provenance child_steps child_provenance
unfolding child_provenance
play-child = play-quiet wide_provenance child_steps computed.quiet-child

-- The child is frozen and its state set is its own life, but its opener, in its creation set, is not signed: it can't be signed alone.
pub child-alone : After child_steps (λ b. ((b.holders 1).state ≡ one 1 incarnation0) × (Equal b 2 → ⊥))
child-alone = record { provenance = child_provenance; play = play-child; holds = (rw computed.one-child, differ-child) }

play-opener : Play wide_provenance opener_steps opener_provenance
unfolding opener_provenance
play-opener = play-on play-child (then (not-ready computed.sign-child refl differ-child) (play-quiet child_provenance (a_step freeze 0 ∷ []) computed.quiet-opener))

-- With its opener, frozen too, it can.
pub child-with-opener : After opener_steps (λ b. Equal b 3)
unfolding opener_provenance
child-with-opener = record {
  provenance = opener_provenance;
  play = play-opener;
  holds = equal-opener;
}

-- Signed with its opener, the child's text rests on the opener's life, which was in its creation set alone; and the opener's text not on the
-- child's, which was in its behaviour set alone.
pub child-rests-on-opener : After (opener_steps ++ (a_sign 3 ∷ [])) (λ b. ValueRestsOn b 1 incarnation0 0 incarnation0 × (ValueRestsOn b 0 incarnation0 1 incarnation0 → ⊥))
unfolding named
child-rests-on-opener = record {
  provenance = signs opener_provenance 3;
  play = play-on play-opener (then (signing computed.sign-opener refl equal-opener) end);
  holds = (from_start (now-checkpointed refl (rw computed.one-opener) (from_start by-creation)), λ k. absurd (apart (only 1 incarnation0 k).0));
}
  where
    by-creation : Ground (opener_provenance.holders 1) 0 incarnation0
    by-creation = rw computed.one-opener (in-creation (Memᴰ.head refl))

    apart : ◌≡◌ {A = ℕ} 1 0 → ⊥
    apart e = omega arith

    opener-only : (u : ℕ) (a : Incarnation) → Ground (opener_provenance.holders 0) u a → (u ≡ 0) × (a ≡ incarnation0)
    opener-only u a g = in_one (ground-state refl u a (rw computed.zero-opener at g))

    noted-0 : (u : ℕ) (a : Incarnation) (t : ℕ) (c : Incarnation) → t ≡ 0 → NotedBy opener_provenance 3 t c u a → (u ≡ 0) × (a ≡ incarnation0)
    noted-0 u a t c z (before x) = absurd (none-opener t c u a x)
    noted-0 u a t c z (now-checkpointed n e r) =
        let g = brings-itself none-opener (λ u a g. ap (λ (x : Incarnation). x.checkpoints) (opener-only u a (rw z at g)).1) u a r in
        opener-only u a (rw z at g)

    only : (u : ℕ) (a : Incarnation) → ValueRestsOn (signs opener_provenance 3) 0 incarnation0 u a → (u ≡ 0) × (a ≡ incarnation0)
    only u a (from_start x) = noted-0 u a 0 incarnation0 refl x
    only u a (from-noted {t = t} {a = c} x y) = noted-0 u a t c (only t c x).0 y
    only u c (from_list {a = a} x e) =
        let n : 0 ≡ length c.checkpoints + 1 = ap length (sym (ap (λ (z : Incarnation). z.checkpoints) (only u a x).1) ∙ e) ∙ length-append c.checkpoints (c.number ∷ []) in
        absurd (omega arith)

-- ---- the limits that a session begins with

-- With two takes, one parcel and one signing: the third take gets 25, the second parcel 26, the second signing 30.
pub small-book : (provenance_refusal base small_provenance (a_root 4) ≡ 25) × (provenance_refusal base small_provenance (a_letter 0 5) ≡ 26)
    × (provenance_refusal base (played small_provenance (receive_and_freeze 0)) (a_sign 1) ≡ 0) × (provenance_refusal base used_provenance (a_sign 1) ≡ 30)
small-book = (computed.third-take, computed.second-message, computed.first-checkpoint, computed.second-checkpoint)

-- ---- marks from two different books

-- 31 where a life of take 1 in the addressee's state or creation is unrelated to that of the parcel; not where the life is of
-- another take, or was signed.
pub other-book : (provenance_refusal base (pasted_provenance (one 1 strange) []) (a_receive 0) ≡ 31) × (provenance_refusal base (pasted_provenance [] (one 1 strange)) (a_receive 0) ≡ 31)
    × (provenance_refusal base (pasted_provenance (one 0 strange) []) (a_receive 0) ≡ 0) × (provenance_refusal base (pasted_provenance (one 1 incarnation0) []) (a_receive 0) ≡ 0)
other-book = (computed.pasted-state, computed.pasted-creation, computed.pasted-other, computed.pasted-related)
