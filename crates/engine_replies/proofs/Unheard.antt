-- Document 02, W4 and W11: "W4's news alters no reply from fresh". For every list of steps from a fresh session, the ledger and one that hears
-- no news (session/specs/Silent) give the same reply to every step; and so over any list of calls. Both are beside one book, and have the same texts.
use Prim.Native.Nat.{ℕ, zero, suc, ◌-◌, ◌*◌, ◌<◌}
use mathlib.Core.Bool.{Bool, true, false}
use mathlib.Core.Path.{◌≡◌, refl, ap, sym, ◌∙◌, subst}
use mathlib.Core.List.{List, []}
use native.Mathlib.Omega.{arith}
use lib.ListN.{length}
use lib.Dec.{eqb}
use borrow.Author.Tests.{eq-eqb, eqb-true}
use Rattle.octets.specs.Bytes.{pick, part, Octets}
use Rattle.octets.proofs.Put.{octets-part}
use Rattle.octets.specs.Table.{updated}
use Rattle.rules.specs.Layout.{Layout, Limits, in_range, base, Fitting}
use Rattle.rules.specs.State.{Transactor, Message, State, transactor_at, message_at, with_transactor, without_message, place_of, fresh}
use Rattle.rules.specs.declared.Step.{Step}
use Rattle.rules.specs.Step.{step_bytes, step_at, pack_reply}
use Rattle.rules.specs.Rules.{Effect, Result, message_superseded, receiver_superseded, receive_by, group_ready, apply_receive, step_of}
use Rattle.rules.specs.Pack.{pack, unpack}
use Rattle.rules.specs.Calls.{begin_answer, fresh_image, begin_image, state_after, steps_in, run_answer, ran_image, ran_replies, run_image, run_replies}
use Rattle.rules.specs.Internal.Well.{StepOk, WellFormed}
use Rattle.rules.proofs.Pack.Fresh.{pack-fresh}
use Rattle.rules.proofs.Pack.RoundTrip.{unpack-pack}
use Rattle.rules.proofs.Calls.Begin.{begin-accepted}
use Rattle.rules.proofs.Keep.Run.{step_ok-at}
use Rattle.rules.proofs.Keep.State.{well-fresh}
use Rattle.rules.proofs.Keep.Step.{keeps, fitting-base}
use Rattle.session.specs.Provenance.{Provenance, empty_provenance, find}
use Rattle.session.specs.Steps.{is_dropped, is_rolled_back}
use Rattle.session.specs.Fed.{Call, run, none}
use Rattle.session.specs.Trace.{Answer, ran, refusal_in, Performed, beginning, running, offering, showing, Trace, opened, called}
use Rattle.session.specs.Silent.{receive_silently, apply_silently, step_silently, silent_after, silent_call, silent_in}
use Rattle.session.proofs.Model.{view}
use Rattle.octets.proofs.Tests.{pick-view, pick-both}
use Rattle.octets.proofs.Tables.{updated-both}
use Rattle.session.proofs.Relation.{Rel, fresh-rel}
use Rattle.session.proofs.Kept.{Kept, provenance-determined}
use Rattle.session.proofs.Step.{Stepped, step_right, ready-exact}
use Rattle.session.proofs.Run.{reply-part}
use Rattle.session.proofs.ViewState.{view-fresh}
use Rattle.session.proofs.Silent.{place, case, is-receive, is-accepted, keeps-silently, kept-silently, own-receipt, reply-silently}
use Rattle.engine_tables.specs.Internal.Tables.{Tables, play, fresh_tables}
use Rattle.engine_chains.proofs.BookSets.{NumberedBook, step-numbered, steps-numbered}
use Rattle.engine_replies.proofs.Tells.{Tells, SlotRel, transactor-with}
use Rattle.engine_replies.proofs.Plays.{step-plays}
use Rattle.engine_replies.proofs.Engine.{fresh-tells}

-- ---- a step without the news leaves the texts that the step leaves

-- the same texts
record Texts (s r : State) : Type 0 where
  transactors : (t : ℕ) → ((transactor_at s t).value ≡ (transactor_at r t).value) × ((transactor_at s t).saved ≡ (transactor_at r t).saved)
  messages : s.messages ≡ r.messages

abbrev Same : Transactor → Transactor → Type 0
Same x z = (x.value ≡ z.value) × (x.saved ≡ z.saved)

received-texts : (y : Layout) (t : ℕ) (x : Transactor) (m : Message) → Same (receive_silently y t x m).transactor (receive_by y t x m).transactor
unfolding receive_silently receive_by
received-texts y t x m =
    let P : Effect → Effect → Type 0 = λ e f. Same e.transactor f.transactor in
    pick-both P (message_superseded y x m) (message_superseded y x m) refl _ _ _ _ (λ e. (refl, refl)) λ e.
    pick-both P (receiver_superseded y x m) (receiver_superseded y x m) refl _ _ _ _ (λ f. (refl, refl)) (λ f. (refl, refl))

put-texts : (s : State) (t k : ℕ) (x z : Transactor) → t < length s.transactors → Same x z → Texts (without_message (with_transactor s t x) k) (without_message (with_transactor s t z) k)
unfolding without_message with_transactor transactor_at
put-texts s t k x z h e = record {
  transactors = λ u. subst (λ (f : ℕ → Transactor). Same (f u) (transactor_at (with_transactor s t z) u)) (sym (transactor-with s t x h))
      (subst (λ (f : ℕ → Transactor). Same (updated (transactor_at s) t x u) (f u)) (sym (transactor-with s t z h))
      (updated-both (λ u a c. Same a c) (transactor_at s) (transactor_at s) t x z e (λ u d. (refl, refl)) u));
  messages = refl;
}

module _ {y : Layout} (z : Fitting y) {s : State} (well : WellFormed y s) {p : Step} (ok : StepOk p) where
  silent-texts : Texts (step_silently y s p).state (step_of y s p).state
  unfolding step_silently apply_silently apply_receive
  silent-texts = pick-view (λ (r : Result). Texts r.state (step_of y s p).state) (case z well ok) _ _
      (λ e.
      let k : ℕ = place_of s p.message in
      let t : ℕ = (message_at s k).addressee in
      let there : k < length s.messages = place well (is-receive z well ok e) (is-accepted z well ok e) in
      let below : t < length s.transactors = omega (arith, well.addressees k there, well.opened, well.limits.transactors-high, well.packable.many) in
      rw (own-receipt z well ok e) (put-texts s t k _ _ below (received-texts y t (transactor_at s t) (message_at s k))))
      (λ e. record { transactors = λ t. (refl, refl); messages = refl })

tells-texts : {b : Provenance} {s r : State} {T : Tables} → Texts s r → Tells b r T → Tells b s T
tells-texts {b} {s} {r} {T} e k = record {
  limits = k.limits;
  opened = k.opened;
  next = k.next;
  waiting = k.waiting;
  rows = λ t. let h = k.rows t in let q = e.transactors t in
      record { status = h.status; stable = h.stable; checkpoints = h.checkpoints; incarnation = h.incarnation; value = h.value ∙ sym q.0; saved = h.saved ∙ sym q.1 };
  messages = λ n. subst (λ ms. SlotRel b.messages ms n (T.messages n)) (sym e.messages) (k.messages n);
}

-- ---- the two side by side

-- a state beside the book, with the texts of the tables
record Side (y : Layout) (s : State) (b : Provenance) (T : Tables) : Type 0 where
  well : WellFormed y s
  rel : Rel (view s) b
  tells : Tells b s T

-- two states beside one book, with the same texts
record Twins (y : Layout) (s r : State) : Type 1 where
  book : Provenance
  numbered : NumberedBook book
  tables : Tables
  heard : Side y s book tables
  silent : Side y r book tables

-- one step: the same reply, and twins again
record Next (y : Layout) (p : Step) (s r : State) : Type 1 where
  reply : (step_of y s p).reply ≡ (step_silently y r p).reply
  after : Twins y (step_of y s p).state (step_silently y r p).state

module _ {y : Layout} (z : Fitting y) where
  next : {p : Step} → StepOk p → {s r : State} → Twins y s r → Next y p s r
  next {p} ok {s} {r} t =
      let b : Provenance = t.book in
      let T : Tables = t.tables in
      let n = t.numbered in
      let d : Bool = is_dropped (b.holders (find p.message b.messages).addressee) (find p.message b.messages) in
      let f : Bool = is_rolled_back (b.holders (find p.message b.messages).addressee) (find p.message b.messages) in
      let g : Bool = group_ready y s p.message in
      let k : Stepped y s b p = step_right z t.heard.well t.heard.rel ok in
      let j : Stepped y r b p = step_right z t.silent.well t.silent.rel ok in
      let q : Kept y b p (view (step_silently y r p).state) = kept-silently z t.silent.well ok t.silent.rel in
      let c : Provenance = k.after in
      let one = step-plays p t.heard.well t.heard.rel n t.heard.tells ok.message d f g refl refl (λ e i. ready-exact z t.heard.well t.heard.rel ok e i) k.right.provenance k.right in
      let two = step-plays p t.silent.well t.silent.rel n t.silent.tells ok.message d f g refl refl (λ e i. ready-exact z t.heard.well t.heard.rel ok e i) j.right.provenance j.right in
      let tells : Tells c (step_of y r p).state (play y T p d f g).tables = subst (λ x. Tells x (step_of y r p).state (play y T p d f g).tables) (provenance-determined j.right.provenance k.right.provenance) two.tells in
      record {
        reply = sym one.reply ∙ two.reply ∙ sym (reply-silently z t.silent.well ok);
        after = record {
          book = c;
          numbered = step-numbered k.right.provenance n;
          tables = (play y T p d f g).tables;
          heard = record { well = keeps z t.heard.well ok; rel = k.rel; tells = one.tells };
          silent = record {
            well = keeps-silently z t.silent.well ok;
            rel = subst (λ x. Rel (view (step_silently y r p).state) x) (provenance-determined q.step k.right.provenance) q.rel;
            tells = tells-texts (silent-texts z t.silent.well ok) tells;
          };
        };
      }

  -- a part of steps
  steps-twins : (steps : List ℕ) → Octets steps → {s r : State} → Twins y s r → (i : ℕ) → Twins y (state_after y s steps i) (silent_after y r steps i)
  unfolding state_after silent_after
  steps-twins steps octets t zero = t
  steps-twins steps octets t (suc i) = (next (step_ok-at steps octets i) (steps-twins steps octets t i)).after

  fresh-twins : (m : Limits) → in_range y m ≡ true → Twins y (fresh y m) (fresh y m)
  fresh-twins m range =
      let side : Side y (fresh y m) (empty_provenance m) (fresh_tables m) = record { well = well-fresh z m range; rel = rw (view-fresh y m) (fresh-rel m); tells = fresh-tells y m } in
      record { book = empty_provenance m; numbered = steps-numbered {y = y} {m = m} {steps = []} none; tables = fresh_tables m; heard = side; silent = side }

  -- Every step from fresh, of whatever kind, refused or not: the same reply with the news and without.
  pub replies-unchanged : (m : Limits) (steps : List ℕ) → Octets steps → in_range y m ≡ true
      → (i : ℕ) → (step_of y (state_after y (fresh y m) steps i) (step_at steps i)).reply ≡ (step_silently y (silent_after y (fresh y m) steps i) (step_at steps i)).reply
  replies-unchanged m steps octets range i = (next (step_ok-at steps octets i) (steps-twins steps octets (fresh-twins m range) i)).reply

  -- ---- over the calls of a session

  begun-state : (m : Limits) (img : List ℕ) → begin_answer y m img ≡ 0 → Twins y (unpack y (begin_image y m img)) (fresh y m)
  begun-state m img e =
      let a = begin-accepted y img m e in
      let range : in_range y m ≡ true = a.0 in
      let t = fresh-twins m range in
      let back : unpack y (begin_image y m img) ≡ fresh y m = ap (unpack y) (a.1 ∙ pack-fresh y m) ∙ unpack-pack y (fresh y m) t.heard.well.packable in
      subst (λ (s : State). Twins y s (fresh y m)) (sym back) t

  call-twins : {img after : List ℕ} {c : Call} {a : Answer} {r : State} → Twins y (unpack y img) r → Performed y img c a after → Twins y (unpack y after) (silent_call y c (refusal_in a) r)
  unfolding silent_call begin_image run_image ran_image
  call-twins {img} {r = r} t (beginning {m} e) = rw (e.0, e.1) (go (eqb (begin_answer y m img) 0) refl)
    where
      go : (t : Bool) → eqb (begin_answer y m img) 0 ≡ t → Twins y (unpack y (pick t (fresh_image y m) img)) (pick t (fresh y m) r)
      go true h =
          let q : begin_answer y m img ≡ 0 = eqb-true (begin_answer y m img) 0 h in
          subst (λ (i : List ℕ). Twins y (unpack y i) (fresh y m)) (begin-accepted y img m q).1 (begun-state m img q)
      go false h = t
  call-twins {img} {r = r} t (running {list} {o} {start} {end} {lent} e) = rw (e.0, e.1) (go (eqb (run_answer y img list start end lent) 0))
    where
      steps : List ℕ
      steps = part start (end - start) list

      n : ℕ
      n = steps_in steps

      on : Twins y (state_after y (unpack y img) steps n) (silent_after y r steps n)
      on = steps-twins steps (octets-part start (end - start) list o) t n

      go : (t : Bool) → Twins y (unpack y (pick t (pack y (state_after y (unpack y img) steps n)) img)) (pick t (silent_after y r steps n) r)
      go true = subst (λ (s : State). Twins y s (silent_after y r steps n)) (sym (unpack-pack y (state_after y (unpack y img) steps n) on.heard.well.packable)) on
      go false = t
  call-twins t (offering e) = t
  call-twins t (showing e) = t

  session-twins : {img : List ℕ} (τ : Trace y img) → Twins y (unpack y img) (silent_in τ)
  unfolding silent_in
  session-twins (opened m img e) = begun-state m img e
  session-twins (called τ c a p) = call-twins (session-twins τ) p

  -- Every step of an accepted run after any list of calls: the eight bytes that the run hands back for it are the reply without the news.
  pub runs-unchanged : {img after list : List ℕ} {o : Octets list} {start end : ℕ} {lent replies : List ℕ} (τ : Trace y img) → Performed y img (run list o start end lent) (ran 0 replies) after
      → (i : ℕ) → i < steps_in (part start (end - start) list)
      → part (step_bytes * i) step_bytes replies ≡ pack_reply (step_silently y (silent_after y (silent_in τ) (part start (end - start) list) i) (step_at (part start (end - start) list) i)).reply
  unfolding run_replies ran_replies
  runs-unchanged {img} {list = list} {o = o} {start = start} {end = end} {lent = lent} τ (running e) i h =
      let steps : List ℕ = part start (end - start) list in
      let octets : Octets steps = octets-part start (end - start) list o in
      let all : run_replies y img list start end lent ≡ ran_replies y img steps = rw (eq-eqb (run_answer y img list start end lent) 0 (sym e.0)) in
      ap (part (step_bytes * i) step_bytes) (e.2 ∙ all) ∙ reply-part y (unpack y img) steps (steps_in steps) i h
      ∙ ap pack_reply (next (step_ok-at steps octets i) (steps-twins steps octets (session-twins τ) i)).reply

pub replies-unchanged-base : (m : Limits) (steps : List ℕ) → Octets steps → in_range base m ≡ true
    → (i : ℕ) → (step_of base (state_after base (fresh base m) steps i) (step_at steps i)).reply ≡ (step_silently base (silent_after base (fresh base m) steps i) (step_at steps i)).reply
replies-unchanged-base = replies-unchanged fitting-base

pub runs-unchanged-base : {img after list : List ℕ} {o : Octets list} {start end : ℕ} {lent replies : List ℕ} (τ : Trace base img) → Performed base img (run list o start end lent) (ran 0 replies) after
    → (i : ℕ) → i < steps_in (part start (end - start) list)
    → part (step_bytes * i) step_bytes replies ≡ pack_reply (step_silently base (silent_after base (silent_in τ) (part start (end - start) list) i) (step_at (part start (end - start) list) i)).reply
runs-unchanged-base = runs-unchanged fitting-base
