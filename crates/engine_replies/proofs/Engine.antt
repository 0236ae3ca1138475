-- Document 02, W11: "Its replies equal those of the ledger for every list of whole steps".
use Prim.Native.Nat.{ℕ, zero, suc, ◌+◌, ◌*◌, ◌≤◌, ◌<◌}
use mathlib.Core.Bool.{Bool, true, false, not}
use mathlib.Core.Path.{◌≡◌, refl, ap, sym, ◌∙◌, subst}
use mathlib.Core.List.{List, [], ◌∷◌, ◌++◌}
use mathlib.Core.Logic.{⊎_elim, ◌↔◌}
use native.Mathlib.Omega.{arith}
use lib.ListN.{length, get_or, length-append, take, drop, take-append-drop, replicate, length-replicate, get_or-replicate, get_or-eq_default}
use borrow.Author.Tests.{not-true, eq-eqb}
use Rattle.octets.specs.Bytes.{◌and◌, ◌or◌, every, part, chunks, Octets}
use Rattle.octets.specs.Numbers.{be, of_be, bound}
use Rattle.octets.proofs.Chunks.{chunks-suc, sides, step, length-chunks}
use Rattle.rules.specs.Calls.{begin_answer, begin_image, state_after, reply_at, ran_replies, fresh_image, steps_in}
use Rattle.octets.proofs.Numbers.{length-be, be-one, of_be-be}
use Rattle.octets.proofs.Put.{part_left, part_right, part-whole}
use Rattle.octets.proofs.Zero.{both, every-all, every-at}
use Rattle.marks.specs.History.{HistoryView}
use Rattle.rules.specs.Layout.{Layout, Limits, Fitting, in_range}
use Rattle.rules.specs.State.{State, bare, no_transactor, transactor_at, fresh}
use Rattle.rules.specs.declared.Step.{Step}
use Rattle.rules.specs.declared.Reply.{Reply}
use Rattle.rules.specs.Step.{step_bytes, step_at, pack_reply, sign, unpack_reply, told, unpack_told}
use Rattle.rules.specs.Refusals.{group_bits, named}
use Rattle.rules.specs.Rules.{group_ready, seen, refusal, step_of}
use Rattle.rules.specs.Internal.Well.{WellFormed}
use Rattle.rules.proofs.Keep.Kinds.{ReplyOk}
use Rattle.rules.specs.Status as number
use Rattle.rules.proofs.Keep.Run.{step_ok-at}
use Rattle.rules.proofs.Keep.Step.{keeps-after, replies-fit}
use lib.Seq.{take_all}
use Rattle.rules.specs.Pack.{unpack}
use Rattle.rules.proofs.Calls.Begin.{begin-accepted}
use Rattle.rules.proofs.Pack.Fresh.{pack-fresh}
use Rattle.rules.proofs.Pack.RoundTrip.{unpack-pack}
use Rattle.rules.proofs.Keep.State.{well-fresh}
use Rattle.session.proofs.Relation.{fresh-rel, Rel, own-history}
use Rattle.session.proofs.ViewState.{view-fresh}
use Rattle.session.specs.Provenance.{unused, blank, Incarnations, Holder, WaitingMessage, Provenance, empty_provenance, find, is_missing, any_entry, superseded_entry, any_superseded}
use Rattle.session.specs.Grounds.{Equal}
use Rattle.session.specs.Steps.{is_dropped, is_rolled_back, provenance_refusal}
use Rattle.session.proofs.Model.{own, view}
use Rattle.session.proofs.Accepted.{named-below}
use Rattle.session.proofs.Step.{Stepped, step_right, ready-exact}
use Rattle.session.proofs.Run.{length-pack_reply, reply-part}
use Rattle.session.proofs.ViewStep.{ready_at, ready-same, applicable, same-refusal}
use Rattle.octets.proofs.Tests.{and-of}
use Rattle.rules.proofs.Keep.Accepted.{accepted}
use Rattle.engine_tables.specs.Internal.Tables.{Tables, fresh_tables, empty_row}
use Rattle.engine_chains.specs.Internal.Walk.{Walk, walk_back, receipt_start, sign_start}
use Rattle.engine_chains.proofs.Seek.{seek}
use Rattle.engine_chains.proofs.BookSets.{steps-numbered}
use Rattle.engine_replies.proofs.Tells.{RowRel, content_in, Tells}
use Rattle.engine_replies.proofs.Plays.{Plays, step-plays}
use Rattle.engine_chains.proofs.Maps.{TracedRun, traced-run, traced-more}
use Rattle.engine_chains.proofs.WayBack.{told_at}
use Rattle.engine_chains.proofs.Walks.{walk-replies, dropped-walk, rolled_back-walk, ready-walk}
use Rattle.engine_chains.specs.Internal.Walk.{told_in, sign_walk}
use Rattle.engine_replies.specs.Internal.Engine.{all_stable, receipt_walk, ready_in, play_step, Engine, engine_after, engine_replies}

-- ---- replies read back from their bytes

module _ (r : Reply) (ok : ReplyOk r) where
  abbrev front : List ℕ
  front = be 1 r.outcome ++ be 1 r.transactor

  front_long : length front ≡ 2
  front_long = rw (length-append (be 1 r.outcome) (be 1 r.transactor), length-be 1 r.outcome, length-be 1 r.transactor)

  number-part : part 2 2 (pack_reply r) ≡ be 2 r.message
  unfolding pack_reply
  number-part =
      part_left 2 2 (front ++ be 2 r.message) (be 4 r.value) (omega (arith, length-append front (be 2 r.message), length-be 2 r.message, front_long))
      ∙ subst (λ (k : ℕ). part k 2 (front ++ be 2 r.message) ≡ be 2 r.message) {x = length front + 0} {y = 2} (omega (arith, front_long))
      (part_right 0 2 front (be 2 r.message) ∙ part-whole 2 (be 2 r.message) (length-be 2 r.message))

  front-is : front ≡ r.outcome ∷ r.transactor ∷ []
  front-is = rw (be-one r.outcome ok.outcome, be-one r.transactor ok.transactor)

  first_two : (get_or (pack_reply r) 0 0 ≡ r.outcome) × (get_or (pack_reply r) 1 0 ≡ r.transactor)
  unfolding pack_reply
  first_two = rw front-is (refl, refl)

  pub told-packed : unpack_told (pack_reply r) ≡ told r
  unfolding unpack_told unpack_reply
  told-packed = λ i. record { outcome = first_two.0 i; transactor = first_two.1 i; message = (ap (of_be 2) number-part ∙ of_be-be 2 r.message ok.message) i }

-- ---- a parcel without a life

any_none : (zs : Incarnations) → any_entry (λ x. any_entry (superseded_entry x) []) zs ≡ false
unfolding any_entry
any_none [] = refl
any_none (z ∷ zs) = any_none zs

dropped-none : (h : Holder) (q : WaitingMessage) → q.incarnations ≡ [] → is_dropped h q ≡ false
unfolding is_dropped any_superseded any_entry
dropped-none h q e = rw e

rolled_back-none : (h : Holder) (q : WaitingMessage) → q.incarnations ≡ [] → is_rolled_back h q ≡ false
unfolding is_rolled_back any_superseded
rolled_back-none h q e = ap (λ (X : Incarnations). any_entry (λ x. any_entry (superseded_entry x) X) (h.state ++ h.creation)) e ∙ any_none (h.state ++ h.creation)

-- ---- every list of steps from a fresh session

pub fresh-tells : (y : Layout) (m : Limits) → Tells (empty_provenance m) (fresh y m) (fresh_tables m)
unfolding fresh transactor_at content_in seek is_missing find
fresh-tells y m = record {
  limits = refl;
  opened = refl;
  next = refl;
  waiting = refl;
  rows = λ t. ⊎_elim
      (λ (h : t < y.transactors). subst (λ x. RowRel (blank unused) x (empty_row number.unused)) (sym (get_or-replicate y.transactors t (bare y number.unused) no_transactor h))
      (record { status = refl; stable = refl; checkpoints = refl; incarnation = refl; value = refl; saved = refl }))
      (λ (h : y.transactors ≤ t). subst (λ x. RowRel (blank unused) x (empty_row number.unused)) (sym (get_or-eq_default (replicate y.transactors (bare y number.unused)) no_transactor {n = t} (rw length-replicate h)))
      (record { status = refl; stable = refl; checkpoints = refl; incarnation = refl; value = refl; saved = refl }))
      (sides t y.transactors);
  messages = λ n. record { missing = refl; addressee = refl; content = refl; letter = λ e. refl };
}

pub reply-long : (y : Layout) (s : State) (steps : List ℕ) (k : ℕ) → length (reply_at y s steps k) ≡ step_bytes
unfolding reply_at
reply-long y s steps k = length-pack_reply _

-- the frozen takes
stable-test : {b : Provenance} {s : State} {T : Tables} → Rel (view s) b → Tells b s T → (g : ℕ) → g < bound 2
    → (all_stable T g ≡ true) ↔ ((t : ℕ) → named g t ≡ true → (own t ((view s).nodes t)).stable ≡ true)
unfolding all_stable
stable-test {b} {s} {T} rel tells g bits = (to, of)
  where
    f : ℕ → Bool
    f t = not (named g t) or (T.rows t).stable

    same : (t : ℕ) → (T.rows t).stable ≡ (own t ((view s).nodes t)).stable
    same t = (tells.rows t).stable ∙ sym (ap (λ (h : HistoryView). h.stable) (own-history (rel.holders t)))

    to : every group_bits f ≡ true → (t : ℕ) → named g t ≡ true → (own t ((view s).nodes t)).stable ≡ true
    to e t n = let q = every-at f group_bits t e (named-below g t bits n) in sym (same t) ∙ (rw n at q)

    of : ((t : ℕ) → named g t ≡ true → (own t ((view s).nodes t)).stable ≡ true) → every group_bits f ≡ true
    of h = every-all f group_bits (λ t k. at t (named g t) refl)
      where
        at : (t : ℕ) (c : Bool) → named g t ≡ c → not c or (T.rows t).stable ≡ true
        at t true e = same t ∙ h t e
        at t false e = refl

module _ {y : Layout} {m : Limits} (z : Fitting y) {s : State} (well : WellFormed y s) (rel : Rel (view s) (empty_provenance m)) (steps : List ℕ) (octets : Octets steps) where
  abbrev run : (i : ℕ) → TracedRun y m s steps i
  run = traced-run z well rel steps octets

  -- the replies to the first i steps say what the ledger told
  told-in : (replies : List ℕ) (i : ℕ) → take (step_bytes * i) replies ≡ chunks i (reply_at y s steps) → (j : ℕ) → j < i → told_in replies j ≡ told_at y s steps j
  unfolding told_in
  told-in replies i e j h =
      let long : length (take (step_bytes * i) replies) ≡ step_bytes * i = ap length e ∙ length-chunks step_bytes (reply_at y s steps) (λ k. reply-long y s steps k) i in
      ap unpack_told (
      ap (part (step_bytes * j) step_bytes) (sym (take-append-drop (step_bytes * i) replies))
      ∙ part_left (step_bytes * j) step_bytes (take (step_bytes * i) replies) (drop (step_bytes * i) replies) (omega (arith, step step_bytes j i h, long))
      ∙ ap (part (step_bytes * j) step_bytes) e
      ∙ reply-part y s steps i j h)
      ∙ told-packed _ (replies-fit z well steps octets j)

  module _ (i : ℕ) (replies : List ℕ) (T : Tables) (so_far : take (step_bytes * i) replies ≡ chunks i (reply_at y s steps)) (tells : Tells (run i).after (state_after y s steps i) T) where
    abbrev now : State
    now = state_after y s steps i

    abbrev b : Provenance
    b = (run i).after

    abbrev p : Step
    p = step_at steps i

    abbrev k : Stepped y now b p
    k = step_right z (keeps-after z well steps octets i) (run i).rel (step_ok-at steps octets i)

    abbrev n : ℕ
    n = p.message

    -- the walk over the bytes is that over what the ledger told
    walk_is : (x : Walk) → walk_back steps (told_in replies) i x ≡ walk_back steps (told_at y s steps) i x
    walk_is x = walk-replies steps (told_in replies) (told_at y s steps) i (told-in replies i so_far) x

    drops : (receipt_walk T steps replies i n).left_is_superseded ≡ is_dropped (b.holders (find n b.messages).addressee) (find n b.messages)
    unfolding receipt_walk
    drops = ap (λ (x : Walk). x.left_is_superseded) (walk_is (receipt_start n (T.messages n).addressee))
        ∙ ap (λ (t : ℕ). (walk_back steps (told_at y s steps) i (receipt_start n t)).left_is_superseded) (tells.messages n).addressee
        ∙ dropped-walk z well rel steps octets i n (find n b.messages).addressee

    rolls : (receipt_walk T steps replies i n).right_is_superseded ≡ is_rolled_back (b.holders (find n b.messages).addressee) (find n b.messages)
    unfolding receipt_walk
    rolls = ap (λ (x : Walk). x.right_is_superseded) (walk_is (receipt_start n (T.messages n).addressee))
        ∙ ap (λ (t : ℕ). (walk_back steps (told_at y s steps) i (receipt_start n t)).right_is_superseded) (tells.messages n).addressee
        ∙ rolled_back-walk z well rel steps octets i n (find n b.messages).addressee

    abbrev W : Walk
    W = walk_back steps (told_at y s steps) i (sign_start n)

    ready-three : (ready_in T steps replies i n ≡ true) ↔ ((all_stable T n ≡ true) × (W.right_is_superseded ≡ false) × (W.unallowed ≡ false))
    unfolding ready_in sign_walk
    ready-three = rw (walk_is (sign_start n)) (
      λ e.
          let q = both (all_stable T n) (not W.right_is_superseded and not W.unallowed) e in
          let r = both (not W.right_is_superseded) (not W.unallowed) q.1 in
          (q.0, not-true W.right_is_superseded r.0, not-true W.unallowed r.1),
      λ q. and-of (all_stable T n) (not W.right_is_superseded and not W.unallowed) q.0 (and-of (not W.right_is_superseded) (not W.unallowed) (ap not q.1) (ap not q.2)),
    )

    ready-if : provenance_refusal y b p ≡ 0 → p.kind ≡ sign → (ready_in T steps replies i n ≡ true) ↔ Equal b n
    unfolding refusal
    ready-if zero-refusal is-sign =
        let ok = keeps-after z well steps octets i in
        let bits = (step_ok-at steps octets i).message in
        let a = applicable ok bits (accepted y (seen y now) p (same-refusal ok (run i).rel p ∙ zero-refusal)) in
        let same : group_ready y now n ≡ ready_at y now n = ready-same ok n bits (a.among (eq-eqb p.kind sign is-sign)) in
        let w = ready-walk z well rel steps octets i n bits in
        let t = stable-test (run i).rel tells n bits in
        let x = ready-exact z ok (run i).rel (step_ok-at steps octets i) zero-refusal is-sign in (
          λ e. let q = ready-three.0 e in x.0 (same ∙ w.1 (t.0 q.0, q.1, q.2)),
          λ e. let q = w.0 (sym same ∙ x.1 e) in ready-three.1 (t.1 q.0, q.1, q.2),
        )

    -- step i on the tables is the ledger's
    pub step_is : Plays k.after (step_of y now p) (play_step y steps replies i T)
    unfolding play_step
    step_is = step-plays p (keeps-after z well steps octets i) (run i).rel (steps-numbered (run i).fed) tells (step_ok-at steps octets i).message _ _ _ drops rolls ready-if k.right.provenance k.right

  -- ---- all steps

  pub record Runs (i : ℕ) (x : Engine) : Type 0 where
    pub tells : Tells (run i).after (state_after y s steps i) x.tables
    pub replies : x.replies ≡ chunks i (reply_at y s steps)

  omega-of : {a c : ℕ} → a ≡ c → a ≤ c
  omega-of e = omega arith

  all-taken : (i : ℕ) (l : List ℕ) → l ≡ chunks i (reply_at y s steps) → take (step_bytes * i) l ≡ chunks i (reply_at y s steps)
  all-taken i l e = take_all (step_bytes * i) l (omega-of (ap length e ∙ length-chunks step_bytes (reply_at y s steps) (reply-long y s steps) i)) ∙ e

  runs-more : (i : ℕ) (x : Engine) → Runs i x → Runs (suc i) (record { tables = (play_step y steps x.replies i x.tables).tables; replies = x.replies ++ pack_reply (play_step y steps x.replies i x.tables).reply })
  unfolding traced-run traced-more state_after reply_at
  runs-more i x h =
      let k = step_is i x.replies x.tables (all-taken i x.replies h.replies) h.tells in
      record {
        tells = k.tells;
        replies = ap (λ l. l ++ pack_reply (play_step y steps x.replies i x.tables).reply) h.replies ∙ ap (λ r. chunks i (reply_at y s steps) ++ pack_reply r) k.reply ∙ sym (chunks-suc i (reply_at y s steps));
      }

  pub runs : Tells (empty_provenance m) s (fresh_tables m) → (i : ℕ) → Runs i (engine_after y m steps i)
  unfolding engine_after traced-run state_after chunks
  runs start zero = record { tells = start; replies = refl }
  runs start (suc i) = runs-more i (engine_after y m steps i) (runs start i)

-- ---- from a fresh session with these limits

module _ (y : Layout) (m : Limits) (z : Fitting y) (range : in_range y m ≡ true) (steps : List ℕ) (octets : Octets steps) where
  abbrev well : WellFormed y (fresh y m)
  well = well-fresh z m range

  rel : Rel (view (fresh y m)) (empty_provenance m)
  rel = rw (view-fresh y m) (fresh-rel m)

  abbrev x : ℕ → Engine
  x = engine_after y m steps

  from-fresh : (i : ℕ) → Runs z well rel steps octets i (engine_after y m steps i)
  from-fresh = runs z well rel steps octets (fresh-tells y m)

  -- its replies fit their bytes
  pub replies-fit-bytes : (i : ℕ) → ReplyOk (play_step y steps (engine_after y m steps i).replies i (engine_after y m steps i).tables).reply
  replies-fit-bytes i =
      let h = from-fresh i in
      subst ReplyOk (sym (step_is z well rel steps octets i (x i).replies (x i).tables (all-taken z well rel steps octets i (x i).replies h.replies) h.tells).reply) (replies-fit z well steps octets i)

  -- The receipt of a letter rests on no chain: it is not dropped, and nobody falls.
  pub letter-walks : (i : ℕ) → ((engine_after y m steps i).tables.messages (step_at steps i).message).letter ≡ true
      → ((receipt_walk (engine_after y m steps i).tables steps (engine_after y m steps i).replies i (step_at steps i).message).left_is_superseded ≡ false)
      × ((receipt_walk (engine_after y m steps i).tables steps (engine_after y m steps i).replies i (step_at steps i).message).right_is_superseded ≡ false)
  letter-walks i e =
      let h = from-fresh i in
      let so_far = all-taken z well rel steps octets i (x i).replies h.replies in
      let none = (h.tells.messages (step_at steps i).message).letter e in (
        drops z well rel steps octets i (x i).replies (x i).tables so_far h.tells ∙ dropped-none _ _ none,
        rolls z well rel steps octets i (x i).replies (x i).tables so_far h.tells ∙ rolled_back-none _ _ none,
      )

  -- For every layout and limits, every list of steps from a fresh image: the engine replies what the ledger does. It is the ledger's
  -- run that stands on the right, by the definition that the contract of run cites.
  pub engine-fresh : engine_replies y m steps ≡ ran_replies y (fresh_image y m) steps
  unfolding engine_replies ran_replies
  engine-fresh = rw (ap (unpack y) (pack-fresh y m) ∙ unpack-pack y (fresh y m) well.packable) (from-fresh (steps_in steps)).replies

-- The same of every image on which a begin with these limits is accepted.
pub engine-replies : (y : Layout) (m : Limits) → Fitting y → (img : List ℕ) → begin_answer y m img ≡ 0 → (steps : List ℕ) → Octets steps
    → engine_replies y m steps ≡ ran_replies y (begin_image y m img) steps
engine-replies y m z img e steps octets =
    let a = begin-accepted y img m e in
    engine-fresh y m z a.0 steps octets ∙ ap (λ (img : List ℕ). ran_replies y img steps) (sym a.1)
