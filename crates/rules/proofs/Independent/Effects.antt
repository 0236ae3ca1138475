-- What a step that is not refused does, as a table of what is new: the takes, one more opened, a parcel more, a parcel less.
use Prim.Native.Nat.{ℕ, ◌+◌, ◌≤◌, ◌<◌}
use mathlib.Core.Bool.{Bool, true, false}
use mathlib.Core.Path.{◌≡◌, refl, sym, ap, ◌∙◌, subst}
use mathlib.Core.List.{List, [], ◌∷◌, ◌++◌}
use mathlib.Core.Logic.{⊎_elim}
use mathlib.Core.Option.{Option, none, some}
use native.Mathlib.Omega.{arith}
use lib.Dec.{eqb, leb}
use lib.ListN.{length, set}
use borrow.Author.Tests.{eqb-true, leb-false}
use Rattle.octets.specs.Bytes.{pick, tabulate}
use Rattle.octets.proofs.Chunks.{sides}
use Rattle.octets.proofs.Tests.{pick-view, pick-zero}
use Rattle.rules.specs.Layout.{Layout}
use Rattle.rules.specs.State.{Transactor, Message, State, transactor_at, message_at, with_behaviour, with_transactor, with_opened, with_message, without_message, place_of, numbered}
use Rattle.rules.specs.Step.{Step, Reply, done, not_ready, root, letter, receive, new, send, read, fail, lose, sign}
use Rattle.rules.specs.Refusals.{named, sends, malformed}
use Rattle.rules.specs.Rules.{Effect, Result, no_dependences, only, join, carried, local_by, receive_by, group_ready, checkpoint_by, checkpoint_at, checkpoint_group, refusal, answer, opening, opened, apply_root, apply_letter, apply_receive, apply_new, apply_send, apply_local, apply_lose, apply_sign, step_of}
use Rattle.marks.specs.History.{initial_history}
use Rattle.rules.specs.Calls.{WaitsFor}
use Rattle.rules.specs.Independent.{whole, opens, takes_away, Changes}
use Rattle.rules.proofs.Places.{place}
use Rattle.rules.proofs.Keep.Step.{applied-same}
use Rattle.rules.proofs.ByKind.Applied.{applies}
use Rattle.rules.proofs.ByKind.Refused.{refuses, kind-formed, receiver, otherwise}
use Rattle.rules.proofs.Independent.Lists.{over, overlay, overlay-nothing, overlay-picked, single, set-overlay, tabulate-overlay, without, absent, absent-is, without_is}

-- ---- changes of a state

pub record Delta : Type 0 where
  pub opens : Bool
  pub takes : ℕ → Option Transactor
  pub made : Option Message
  pub lost : Option ℕ

abbrev pub dropping : Option ℕ → List Message → List Message
dropping none ms = ms
dropping (some n) ms = without n ms

abbrev pub adding : Option Message → List Message → List Message
adding none ms = ms
adding (some m) ms = ms ++ (m ∷ [])

abbrev pub counted : Option Message → ℕ → ℕ
counted none n = n
counted (some m) n = n + 1

unfoldable pub act : Delta → State → State
act d s = record {
  limits = s.limits;
  opened = pick d.opens (s.opened + 1) s.opened;
  next = counted d.made s.next;
  transactors = overlay d.takes s.transactors;
  messages = adding d.made (dropping d.lost s.messages);
}

-- the table of a step that leaves everything as it was
abbrev pub nothing : Delta
nothing = record { opens = false; takes = λ t. none; made = none; lost = none }

abbrev pub takes_new : (ℕ → Option Transactor) → Delta
takes_new f = record { opens = false; takes = f; made = none; lost = none }

abbrev pub parcel_made : Message → Delta
parcel_made m = record { opens = false; takes = λ t. none; made = some m; lost = none }

pub record Doing : Type 0 where
  pub reply : Reply
  pub delta : Delta

-- ---- by kind

pub data Kind (p : Step) : Type 0 where
  is-root : p.kind ≡ root → Kind p
  is-letter : p.kind ≡ letter → Kind p
  is-receive : p.kind ≡ receive → Kind p
  is-new : p.kind ≡ new → Kind p
  is-send : p.kind ≡ send → Kind p
  is-local : read ≤ p.kind → p.kind ≤ fail → Kind p
  is-lose : p.kind ≡ lose → Kind p
  is-sign : p.kind ≡ sign → Kind p

from_low : {A : Type 0} (k n : ℕ) → n ≤ k → (k ≡ n → A) → (n + 1 ≤ k → A) → A
from_low k n h f g = ⊎_elim (λ (i : n < k). g (omega arith)) (λ (i : k ≤ n). f (omega arith)) (sides n k)

from-high : {A : Type 0} (k n : ℕ) → k ≤ n + 1 → (k ≡ n + 1 → A) → (k ≤ n → A) → A
from-high k n h f g = ⊎_elim (λ (i : n < k). f (omega arith)) (λ (i : k ≤ n). g i) (sides n k)

pub kind-of : (p : Step) → malformed p ≡ false → Kind p
kind-of p formed =
    let k : ℕ = p.kind in
    from_low k root (omega arith) is-root λ h1.
    from_low k letter h1 is-letter λ h2.
    from_low k receive h2 is-receive λ h3.
    from_low k new h3 is-new λ h4.
    from_low k send h4 is-send λ h5.
    from-high k lose (kind-formed p formed) is-sign λ h11.
    from-high k fail h11 is-lose λ h10.
    is-local h5 h10

-- the receipt of parcel m by its addressee, which is x
abbrev pub receive_doing : Layout → Step → Message → Transactor → Doing
receive_doing y p m x =
    let r : Effect = receive_by y m.addressee x m in
    record {
      reply = answer r.outcome m.addressee p.message r.value;
      delta = record { opens = false; takes = single m.addressee r.transactor; made = none; lost = some p.message };
    }

-- the opening of take o by the acting take, which is x
abbrev pub new_doing : Layout → Step → ℕ → Transactor → Doing
new_doing y p o x =
    let t : ℕ = p.transactor in
    let grown : Transactor = with_behaviour x (join y (only y o (initial_history y.places)) x.behaviour) in
    record {
      reply = answer done o 0 0;
      delta = record { opens = true; takes = λ u. pick (eqb u o) (some (opening y o p.value (carried y t x))) (single t grown u); made = none; lost = none };
    }

unfoldable pub doing : Layout → State → (p : Step) → Kind p → Doing
doing y s p (is-root e) = record {
  reply = answer done s.opened 0 0;
  delta = record { opens = true; takes = single s.opened (opening y s.opened p.value (no_dependences y)); made = none; lost = none };
}
doing y s p (is-letter e) = record {
  reply = answer done p.transactor s.next 0;
  delta = parcel_made (record { addressee = p.transactor; number = s.next; value = p.value; dependences = no_dependences y });
}
doing y s p (is-receive e) = receive_doing y p (message_at s (place_of s p.message)) (transactor_at s (receiver s p.message))
doing y s p (is-new e) = new_doing y p s.opened (transactor_at s p.transactor)
doing y s p (is-send e) = record {
  reply = answer done p.transactor s.next 0;
  delta = parcel_made (record { addressee = p.other; number = s.next; value = p.value; dependences = carried y p.transactor (transactor_at s p.transactor) });
}
doing y s p (is-local a b) =
    let r : Effect = local_by y p.kind p.transactor p.value (transactor_at s p.transactor) in
    record { reply = answer r.outcome p.transactor 0 r.value; delta = takes_new (single p.transactor r.transactor) }
doing y s p (is-lose e) = record {
  reply = answer done 0 p.message 0;
  delta = record { opens = false; takes = λ t. none; made = none; lost = some p.message };
}
doing y s p (is-sign e) =
    pick (group_ready y s p.message)
    (record { reply = answer done 0 0 0; delta = takes_new (λ t. pick (named p.message t) (some (checkpoint_by y t (transactor_at s t))) none) })
    (record { reply = answer not_ready 0 0 0; delta = nothing })

abbrev pub result : Doing → State → Result
result d s = record { reply = d.reply; state = act d.delta s }

-- ---- a step does that

pub act-nothing : (s : State) → act nothing s ≡ s
unfolding act
act-nothing s = λ i. record { limits = s.limits; opened = s.opened; next = s.next; transactors = overlay-nothing s.transactors i; messages = s.messages }

chosen : (c : Bool) (x z : Transactor) → pick c x z ≡ over (pick c (some x) none) z
unfolding over
chosen true x z = refl
chosen false x z = refl

module _ (y : Layout) (s : State) (p : Step) where
  -- each kind does what its table says
  root_does : (e : p.kind ≡ root) → apply_root y s p ≡ result (doing y s p (is-root e)) s
  unfolding apply_root opened with_opened with_transactor doing act
  root_does e =
      let r : set s.transactors s.opened (opening y s.opened p.value (no_dependences y)) ≡ overlay (single s.opened (opening y s.opened p.value (no_dependences y))) s.transactors = set-overlay s.transactors s.opened _ in
      λ i. record { reply = answer done s.opened 0 0; state = record { limits = s.limits; opened = s.opened + 1; next = s.next; transactors = r i; messages = s.messages } }

  letter-does : (e : p.kind ≡ letter) → apply_letter y s p ≡ result (doing y s p (is-letter e)) s
  unfolding apply_letter with_message doing act
  letter-does e = rw (overlay-nothing s.transactors)

  receive-does : (e : p.kind ≡ receive) → apply_receive y s p ≡ result (doing y s p (is-receive e)) s
  unfolding apply_receive without_message with_transactor place_of numbered message_at doing act
  receive-does e = rw (set-overlay s.transactors, without_is p.message s.messages)

  new-does : (e : p.kind ≡ new) → apply_new y s p ≡ result (doing y s p (is-new e)) s
  unfolding apply_new opened with_opened with_transactor doing act
  new-does e =
      let t : ℕ = p.transactor in
      let o : ℕ = s.opened in
      let l : List Transactor = s.transactors in
      let x : Transactor = transactor_at s t in
      let grown : Transactor = with_behaviour x (join y (only y o (initial_history y.places)) x.behaviour) in
      let child : Transactor = opening y o p.value (carried y t x) in
      let r : set (set l t grown) o child ≡ overlay (λ u. pick (eqb u o) (some child) (single t grown u)) l =
      set-overlay (set l t grown) o child ∙ ap (overlay (single o child)) (set-overlay l t grown) ∙ overlay-picked (λ u. eqb u o) child (single t grown) l in
      λ i. record { reply = answer done o 0 0; state = record { limits = s.limits; opened = o + 1; next = s.next; transactors = r i; messages = s.messages } }

  send-does : (e : p.kind ≡ send) → apply_send y s p ≡ result (doing y s p (is-send e)) s
  unfolding apply_send with_message doing act
  send-does e = rw (overlay-nothing s.transactors)

  local-does : (a : read ≤ p.kind) (b : p.kind ≤ fail) → apply_local y s p ≡ result (doing y s p (is-local a b)) s
  unfolding apply_local with_transactor doing act
  local-does a b = rw (set-overlay s.transactors)

  lose-does : (e : p.kind ≡ lose) → apply_lose s p ≡ result (doing y s p (is-lose e)) s
  unfolding apply_lose without_message place_of numbered message_at doing act
  lose-does e = rw (overlay-nothing s.transactors, without_is p.message s.messages)

  sign-does : (e : p.kind ≡ sign) → length s.transactors ≡ y.transactors → apply_sign y s p ≡ result (doing y s p (is-sign e)) s
  unfolding apply_sign checkpoint_group checkpoint_at transactor_at over doing act
  sign-does e full = go (group_ready y s p.message)
    where
      go : (c : Bool) → pick c (record { reply = answer done 0 0 0; state = checkpoint_group y s p.message }) (record { reply = answer not_ready 0 0 0; state = s })
          ≡ result (pick c (record { reply = answer done 0 0 0; delta = takes_new (λ t. pick (named p.message t) (some (checkpoint_by y t (transactor_at s t))) none) }) (record { reply = answer not_ready 0 0 0; delta = nothing })) s
      go true =
          let r : tabulate y.transactors (checkpoint_at y s p.message) ≡ overlay (λ t. pick (named p.message t) (some (checkpoint_by y t (transactor_at s t))) none) s.transactors =
          tabulate-overlay _ (checkpoint_at y s p.message) s.transactors y.transactors full (λ t. chosen (named p.message t) (checkpoint_by y t (transactor_at s t)) (transactor_at s t)) in
          λ i. record { reply = answer done 0 0 0; state = record { limits = s.limits; opened = s.opened; next = s.next; transactors = r i; messages = s.messages } }
      go false = λ i. record { reply = answer not_ready 0 0 0; state = sym (act-nothing s) i }

  pub applied-doing : (k : Kind p) → length s.transactors ≡ y.transactors → refusal y s p ≡ 0 → step_of y s p ≡ result (doing y s p k) s
  applied-doing (is-root e) full z = applied-same y s p z ∙ (applies y s p).root e ∙ root_does e
  applied-doing (is-letter e) full z = applied-same y s p z ∙ (applies y s p).letter e ∙ letter-does e
  applied-doing (is-receive e) full z = applied-same y s p z ∙ (applies y s p).receive e ∙ receive-does e
  applied-doing (is-new e) full z = applied-same y s p z ∙ (applies y s p).new e ∙ new-does e
  applied-doing (is-send e) full z = applied-same y s p z ∙ (applies y s p).send e ∙ send-does e
  applied-doing (is-local a b) full z = applied-same y s p z ∙ (applies y s p).local a b ∙ local-does a b
  applied-doing (is-lose e) full z = applied-same y s p z ∙ (applies y s p).lose e ∙ lose-does e
  applied-doing (is-sign e) full z = applied-same y s p z ∙ (applies y s p).sign e ∙ sign-does e full

-- ---- only what the step may change is new

pub data New (y : Layout) (s : State) (p : Step) (t : ℕ) : Option Transactor → Type 0 where
  kept : New y s p t none
  changed : {x : Transactor} → Changes y s p (whole t) → New y s p t (some x)

pub data Opens (p : Step) : Bool → Type 0 where
  no-take : Opens p false
  one-take : opens p.kind ≡ true → Opens p true

pub data Made (s : State) (p : Step) : Option Message → Type 0 where
  none_made : Made s p none
  one-made : {m : Message} → sends p.kind ≡ true → m.number ≡ s.next → Made s p (some m)

pub data Lost (s : State) (p : Step) : Option ℕ → Type 0 where
  none-lost : Lost s p none
  one-lost : takes_away p.kind ≡ true → absent p.message s.messages ≡ false → Lost s p (some p.message)

pub record Within (y : Layout) (s : State) (p : Step) (d : Delta) : Type 0 where
  pub opens : Opens p d.opens
  pub takes : (t : ℕ) → New y s p t (d.takes t)
  pub made : Made s p d.made
  pub lost : Lost s p d.lost

pub within-nothing : (y : Layout) (s : State) (p : Step) → Within y s p nothing
within-nothing y s p = record { opens = no-take; takes = λ t. kept; made = none_made; lost = none-lost }

pub waits-for : (s : State) (n : ℕ) → leb (length s.messages) (place_of s n) ≡ false → WaitsFor s (receiver s n) n
unfolding place_of numbered
waits-for s n e =
    let below : place_of s n < length s.messages = leb-false (length s.messages) (place_of s n) e in
    record {
      place = place_of s n;
      waits = below;
      addressee = refl;
      number = eqb-true _ n ((place (numbered s n) 0 (length s.messages)).here (omega arith));
    }

-- the parcel of an accepted receipt or loss waits
module _ (y : Layout) (s : State) (p : Step) (formed : malformed p ≡ false) (z : refusal y s p ≡ 0) where
  abbrev missing : Bool
  missing = leb (length s.messages) (place_of s p.message)

  pub present-receive : p.kind ≡ receive → missing ≡ false
  present-receive e = (pick-zero missing 24 _ (omega arith) (sym ((refuses y s p formed).receive e) ∙ z)).0

  present-lose : p.kind ≡ lose → missing ≡ false
  present-lose e = (pick-zero missing 24 _ (omega arith) (sym ((refuses y s p formed).lose e) ∙ z)).0

  not-absent : missing ≡ false → absent p.message s.messages ≡ false
  unfolding place_of numbered message_at
  not-absent e = sym (absent-is p.message s.messages) ∙ e

  new-single : (t : ℕ) (x : Transactor) → Changes y s p (whole t) → (u : ℕ) → New y s p u (single t x u)
  new-single t x c u = pick-view (New y s p u) (eqb u t) (some x) none (λ e. changed (subst (λ (v : ℕ). Changes y s p (whole v)) (sym (eqb-true u t e)) c)) (λ e. kept)

  pub within : (k : Kind p) → Within y s p (doing y s p k).delta
  unfolding doing
  within (is-root e) = record { opens = one-take (rw e); takes = new-single s.opened _ (Changes.opening (rw e)); made = none_made; lost = none-lost }
  within (is-letter e) = record { opens = no-take; takes = λ t. kept; made = one-made (rw e) refl; lost = none-lost }
  within (is-receive e) = record {
    opens = no-take;
    takes = new-single (receiver s p.message) _ (Changes.receiving (receiver s p.message) e (waits-for s p.message (present-receive e)));
    made = none_made;
    lost = one-lost (rw e) (not-absent (present-receive e));
  }
  within (is-new e) = record {
    opens = one-take (rw e);
    takes = λ u. pick-view (New y s p u) (eqb u s.opened) _ _
        (λ f. changed (subst (λ (v : ℕ). Changes y s p (whole v)) (sym (eqb-true u s.opened f)) (Changes.opening (rw e))))
        (λ f. new-single p.transactor _ (Changes.acting (rw e) (λ g. omega arith)) u);
    made = none_made;
    lost = none-lost;
  }
  within (is-send e) = record { opens = no-take; takes = λ t. kept; made = one-made (rw e) refl; lost = none-lost }
  within (is-local a b) =
      let k = otherwise p.kind a b in
      record { opens = no-take; takes = new-single p.transactor _ (Changes.acting (rw (k.from, k.upto)) (λ g. omega arith)); made = none_made; lost = none-lost }
  within (is-lose e) = record { opens = no-take; takes = λ t. kept; made = none_made; lost = one-lost (rw e) (not-absent (present-lose e)) }
  within (is-sign e) = pick-view (λ (d : Doing). Within y s p d.delta) (group_ready y s p.message) _ _
      (λ f. record {
        opens = no-take;
        takes = λ t. pick-view (New y s p t) (named p.message t) _ _ (λ g. changed (Changes.naming t e f g)) (λ g. kept);
        made = none_made;
        lost = none-lost;
      })
      (λ f. within-nothing y s p)
