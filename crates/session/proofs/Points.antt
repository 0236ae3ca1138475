-- The points, calls and steps of a session: the ledger's state there is well-formed and related to the book there.
use Prim.Native.Nat.{ℕ, ◌-◌, ◌*◌}
use mathlib.Core.Path.{◌≡◌, refl, ap, sym, ◌∙◌, subst}
use mathlib.Core.List.{List}
use borrow.Author.Tests.{eq-eqb}
use Rattle.octets.specs.Bytes.{part, Octets}
use Rattle.octets.proofs.Put.{octets-part}
use Rattle.rules.specs.Layout.{Layout, Fitting}
use Rattle.rules.specs.State.{State}
use Rattle.rules.specs.declared.Step.{Step}
use Rattle.rules.specs.Step.{step_bytes, pack_reply}
use Rattle.rules.specs.Rules.{step_of}
use Rattle.rules.specs.Pack.{unpack}
use Rattle.rules.specs.Calls.{state_after, steps_in, run_answer, ran_replies, run_replies}
use Rattle.rules.specs.Internal.Well.{StepOk, WellFormed}
use Rattle.rules.proofs.Keep.Run.{step_ok-at}
use Rattle.rules.proofs.Keep.Step.{keeps-after}
use Rattle.session.specs.Provenance.{Provenance}
use Rattle.session.specs.Fed.{ProvenanceSteps, ProvenanceOf}
use Rattle.session.specs.Trace.{running, Trace, calls_of}
use Rattle.session.specs.Point.{StepIn, last-run, earlier-run, Point, at-end, at-step, earlier}
use Rattle.session.proofs.Model.{view}
use Rattle.session.proofs.Relation.{Rel}
use Rattle.session.proofs.Unique.{provenance-unique, steps-determined}
use Rattle.session.proofs.Run.{run-right, reply-part}
use Rattle.session.proofs.Calls.{Holds}
use Rattle.session.proofs.Grown.{grown}

-- a well-formed state related to a book
pub record Beside (y : Layout) (s : State) (b : Provenance) : Type 0 where
  pub well : WellFormed y s
  pub rel : Rel (view s) b

-- a step from there: what its run hands back for it is its reply, packed
pub record Taken (y : Layout) (s : State) (b : Provenance) (p : Step) (reply : List ℕ) (s' : State) : Type 0 where
  pub beside : Beside y s b
  pub ok : StepOk p
  pub given : reply ≡ pack_reply (step_of y s p).reply
  pub after : s' ≡ (step_of y s p).state

module _ {y : Layout} (z : Fitting y) where
  -- the image after the calls holds a state related to the book of the calls
  pub held : {img : List ℕ} (τ : Trace y img) {b : Provenance} → ProvenanceOf y (calls_of τ) b → Holds y img b
  held {img} τ f = let g = grown z τ in subst (λ c. Holds y img c) (provenance-unique g.fed f) g.holds

  -- and so on, step by step
  pub beside-steps : {img : List ℕ} {b d : Provenance} → Holds y img b → (steps : List ℕ) → Octets steps → (i : ℕ) → ProvenanceSteps y b steps i d
      → Beside y (state_after y (unpack y img) steps i) d
  beside-steps {img} {b} h steps octets i f =
      let r = run-right z h.well h.rel steps octets i in
      record {
        well = keeps-after z h.well steps octets i;
        rel = subst (λ c. Rel (view (state_after y (unpack y img) steps i)) c) (steps-determined r.fed f) r.rel;
      }

  -- what a run that is accepted hands back
  replies-accepted : (img list lent : List ℕ) (start end : ℕ) → run_answer y img list start end lent ≡ 0 → run_replies y img list start end lent ≡ ran_replies y img (part start (end - start) list)
  unfolding run_replies
  replies-accepted img list lent start end e = rw (eq-eqb (run_answer y img list start end lent) 0 e)

  pub step-taken : {img : List ℕ} {τ : Trace y img} {s s' : State} {b : Provenance} {p : Step} {reply : List ℕ} → StepIn y img τ s b p reply s' → Taken y s b p reply s'
  unfolding state_after ran_replies
  step-taken (last-run {img = img} {list = list} {o = o} {start = start} {end = end} {lent = lent} {τ = τ} {p = running k} i f e n g) =
      let steps : List ℕ = part start (end - start) list in
      let octets : Octets steps = octets-part start (end - start) list o in
      record {
        beside = beside-steps (held τ f) steps octets i g;
        ok = step_ok-at steps octets i;
        given = ap (part (step_bytes * i) step_bytes) (k.2 ∙ replies-accepted img list lent start end (sym k.0 ∙ e)) ∙ reply-part y (unpack y img) steps (steps_in steps) i n;
        after = refl;
      }
  step-taken (earlier-run k) = step-taken k

  pub point-beside : {img : List ℕ} {τ : Trace y img} {s : State} {b : Provenance} → Point y img τ s b → Beside y s b
  point-beside {τ = τ} (at-end f) = let h = held τ f in record { well = h.well; rel = h.rel }
  point-beside (at-step k) = (step-taken k).beside
  point-beside (earlier k) = point-beside k
