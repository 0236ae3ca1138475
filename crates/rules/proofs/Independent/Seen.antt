-- A step that sees the same in two states is answered the same and does the same.
use Prim.Native.Nat.{ℕ}
use mathlib.Core.Bool.{Bool, true, false, not}
use mathlib.Core.Path.{◌≡◌, refl, sym, ap, ◌∙◌}
use mathlib.Core.Logic.{inr}
use mathlib.Core.Option.{Option, none, some}
use lib.Dec.{eqb, leb}
use lib.ListN.{length}
use Rattle.octets.specs.Bytes.{pick, ◌and◌, ◌or◌}
use Rattle.octets.proofs.Tests.{or-of, or-none}
use Rattle.octets.proofs.Zero.{every-same, any_same}
use Rattle.marks.specs.declared.History.{History}
use Rattle.marks.specs.Incarnation.{Incarnation}
use Rattle.marks.specs.History.{incarnation_of}
use Rattle.maps.specs.declared.DependenceMap.{DependenceMap}
use Rattle.maps.specs.Map.{held_at, history_at}
use Rattle.rules.specs.Layout.{Layout}
use Rattle.rules.specs.Status.{idle, annihilated}
use Rattle.rules.specs.State.{Transactor, Message, State, own_history, transactor_at, message_at, place_of}
use Rattle.rules.specs.Step.{Step, done, not_ready, receive, sign}
use Rattle.rules.specs.Refusals.{group_bits, named, any_named, acts, sends, malformed}
use Rattle.rules.specs.Rules.{carried, entry_ready, map_ready, transactor_ready, group_ready, checkpoint_by, message_superseded, receiver_superseded, message_unrelated, receipt_rolls_back, receipt_unrelated, refusal, answer}
use Rattle.rules.specs.Internal.Guards.{first, is_last_incarnation, busy_refusal, room_refusal, named_refusal, group_refusal, group_in}
use Rattle.rules.specs.Independent.{whole, there, signed, signed_in, opens, takes_away, has_mark, Sees}
use Rattle.rules.proofs.ByKind.Refused.{refuses, receiver, otherwise}
use Rattle.rules.proofs.Independent.Effects.{Kind, is-root, is-letter, is-receive, is-new, is-send, is-local, is-lose, is-sign, receive_doing, new_doing, doing, nothing, takes_new, parcel_made, waits-for, present-receive}

pub record Alike (s s' : State) (p : Step) : Type 0 where
  pub limits : s'.limits ≡ s.limits
  pub takes : (t : ℕ) → Sees s p (whole t) → transactor_at s' t ≡ transactor_at s t
  pub lives : (u : ℕ) → Sees s p (signed u) → (a : Incarnation) → signed_in s' u a ≡ signed_in s u a
  pub opened : (t : ℕ) → Sees s p (whole t) → leb s'.opened t ≡ leb s.opened t
  pub addressed : (t : ℕ) → Sees s p (there t) → leb s'.opened t ≡ leb s.opened t
  pub count : opens p.kind ≡ true → s'.opened ≡ s.opened
  pub next : sends p.kind ≡ true → s'.next ≡ s.next
  pub places : sends p.kind ≡ true → leb s'.limits.messages (length s'.messages) ≡ leb s.limits.messages (length s.messages)
  pub missing : takes_away p.kind ≡ true → leb (length s'.messages) (place_of s' p.message) ≡ leb (length s.messages) (place_of s p.message)
  pub message : takes_away p.kind ≡ true → message_at s' (place_of s' p.message) ≡ message_at s (place_of s p.message)

-- ---- volumes

named-same : (g : ℕ) (f h : ℕ → Bool) → ((t : ℕ) → named g t ≡ true → f t ≡ h t) → any_named g f ≡ any_named g h
unfolding any_named
named-same g f h e = any_same (λ t. named g t and f t) (λ t. named g t and h t) group_bits (λ t b. go t (named g t) refl)
  where
    go : (t : ℕ) (c : Bool) → named g t ≡ c → c and f t ≡ c and h t
    go t true n = e t n
    go t false n = refl

-- what a receipt sees: whether its parcel is missing, the parcel, and the parcel's addressee
abbrev receipt_refusal : Layout → Bool → Message → Transactor → ℕ
receipt_refusal y miss m x =
    pick miss 24
    (pick (eqb x.status annihilated) 22
    (pick (not (eqb x.status idle)) 23
    (pick (message_unrelated y x m) 31
    (pick ((not (message_superseded y x m) and receiver_superseded y x m) and is_last_incarnation y m.addressee x) 28 0))))

receipt-refusal : (y : Layout) (s : State) (p : Step) → malformed p ≡ false → p.kind ≡ receive
    → refusal y s p ≡ receipt_refusal y (leb (length s.messages) (place_of s p.message)) (message_at s (place_of s p.message)) (transactor_at s (receiver s p.message))
unfolding receipt_unrelated receipt_rolls_back
receipt-refusal y s p formed e = (refuses y s p formed).receive e

-- a mark of a take that the volume does not name is ready exactly if its life is signed
entry-unnamed : (s : State) (v u : ℕ) (h : History) → named v u ≡ false → entry_ready s v u h ≡ signed_in s u (incarnation_of h)
unfolding entry_ready
entry-unnamed s v u h n = rw (n, or-none)

module _ (y : Layout) (s s' : State) (p : Step) (formed : malformed p ≡ false) (a : Alike s s' p) where
  -- ---- 12

  module _ (e : p.kind ≡ sign) where
    named-whole : (t : ℕ) → named p.message t ≡ true → transactor_at s' t ≡ transactor_at s t
    named-whole t n = a.takes t (Sees.naming t e n)

    sign-refusal : group_in s' p.message ≡ group_in s p.message
    unfolding group_refusal named_refusal
    sign-refusal =
        let g : ℕ = p.message in
        let l : s'.limits ≡ s.limits = a.limits in
        let o : any_named g (leb s'.opened) ≡ any_named g (leb s.opened) = named-same g (leb s'.opened) (leb s.opened) (λ t n. a.opened t (Sees.naming t e n)) in
        let v : any_named g (λ t. eqb (transactor_at s' t).status annihilated) ≡ any_named g (λ t. eqb (transactor_at s t).status annihilated) =
        named-same g _ _ (λ t n. ap (λ (x : Transactor). eqb x.status annihilated) (named-whole t n)) in
        let c : any_named g (λ t. leb s'.limits.checkpoints (own_history t (transactor_at s' t)).count) ≡ any_named g (λ t. leb s.limits.checkpoints (own_history t (transactor_at s t)).count) =
        named-same g _ _ (λ t n. (λ i. leb (l i).checkpoints (own_history t (named-whole t n i)).count)) in
        λ i. pick (eqb g 0) 29 (pick (o i) 21 (pick (v i) 22 (pick (c i) 30 0)))

    map_same : (t : ℕ) → named p.message t ≡ true → (m : DependenceMap) → ((u : ℕ) → held_at m u ≡ true → has_mark (transactor_at s t) u ≡ true) → map_ready y s' p.message m ≡ map_ready y s p.message m
    unfolding map_ready entry_ready
    map_same t n m held = every-same _ _ y.transactors (λ u b. go u (held_at m u) refl (named p.message u) refl)
      where
        go : (u : ℕ) (c : Bool) → held_at m u ≡ c → (d : Bool) → named p.message u ≡ d → not c or entry_ready s' p.message u (history_at m u) ≡ not c or entry_ready s p.message u (history_at m u)
        go u true h true k = let w : transactor_at s' u ≡ transactor_at s u = named-whole u k in rw w
        go u true h false k =
            entry-unnamed s' p.message u (history_at m u) k
            ∙ a.lives u (Sees.resting t u e n (held u h)) (incarnation_of (history_at m u))
            ∙ sym (entry-unnamed s p.message u (history_at m u) k)
        go u false h d k = refl

    ready-same : group_ready y s' p.message ≡ group_ready y s p.message
    unfolding group_ready transactor_ready
    ready-same = every-same _ _ y.transactors (λ t b. go t (named p.message t) refl)
      where
        go : (t : ℕ) (c : Bool) → named p.message t ≡ c → not c or transactor_ready y s' p.message t ≡ not c or transactor_ready y s p.message t
        go t true n =
            let w : transactor_at s' t ≡ transactor_at s t = named-whole t n in
            let x : Transactor = transactor_at s t in
            let m : map_ready y s' p.message x.state ≡ map_ready y s p.message x.state = map_same t n x.state (λ u h. rw h) in
            let k : map_ready y s' p.message x.creation ≡ map_ready y s p.message x.creation = map_same t n x.creation (λ u h. or-of (held_at x.state u) _ (inr h)) in
            rw w (λ i. (own_history t x).stable and m i and k i)
        go t false n = refl

    signed_same : (t : ℕ) → ◌≡◌ {A = Option Transactor} (pick (named p.message t) (some (checkpoint_by y t (transactor_at s' t))) none) (pick (named p.message t) (some (checkpoint_by y t (transactor_at s t))) none)
    signed_same t = go (named p.message t) refl
      where
        go : (c : Bool) → named p.message t ≡ c → ◌≡◌ {A = Option Transactor} (pick c (some (checkpoint_by y t (transactor_at s' t))) none) (pick c (some (checkpoint_by y t (transactor_at s t))) none)
        go true n = ap (λ (x : Transactor). some (checkpoint_by y t x)) (named-whole t n)
        go false n = refl

  -- ---- 2

  module _ (e : p.kind ≡ receive) where
    abbrev n : ℕ
    n = p.message

    same-message : message_at s' (place_of s' n) ≡ message_at s (place_of s n)
    same-message = a.message (rw e)

    same-missing : leb (length s'.messages) (place_of s' n) ≡ leb (length s.messages) (place_of s n)
    same-missing = a.missing (rw e)

    receiver-whole : leb (length s.messages) (place_of s n) ≡ false → transactor_at s' (receiver s n) ≡ transactor_at s (receiver s n)
    receiver-whole h = a.takes (receiver s n) (Sees.receiving (receiver s n) e (waits-for s n h))

    -- whatever addressee that is
    receiver-same : leb (length s.messages) (place_of s n) ≡ false → transactor_at s' (receiver s' n) ≡ transactor_at s (receiver s n)
    receiver-same h = ap (λ (m : Message). transactor_at s' m.addressee) same-message ∙ receiver-whole h

    receive-refusal : refusal y s' p ≡ refusal y s p
    receive-refusal = receipt-refusal y s' p formed e ∙ go (leb (length s.messages) (place_of s n)) refl ∙ sym (receipt-refusal y s p formed e)
      where
        go : (c : Bool) → leb (length s.messages) (place_of s n) ≡ c
            → receipt_refusal y (leb (length s'.messages) (place_of s' n)) (message_at s' (place_of s' n)) (transactor_at s' (receiver s' n))
            ≡ receipt_refusal y (leb (length s.messages) (place_of s n)) (message_at s (place_of s n)) (transactor_at s (receiver s n))
        go true f = rw (same-missing, f)
        go false f = λ i. receipt_refusal y (same-missing i) (same-message i) (receiver-same f i)

  -- ---- refusals

  pub same-refusal : Kind p → refusal y s' p ≡ refusal y s p
  unfolding busy_refusal room_refusal
  same-refusal (is-root e) =
      let l : s'.limits ≡ s.limits = a.limits in
      let o : s'.opened ≡ s.opened = a.count (rw e) in
      (refuses y s' p formed).root e ∙ rw (l, o) (sym ((refuses y s p formed).root e))
  same-refusal (is-letter e) =
      let o : leb s'.opened p.transactor ≡ leb s.opened p.transactor = a.addressed p.transactor (Sees.letter-to e) in
      let n : s'.next ≡ s.next = a.next (rw e) in
      let r : leb s'.limits.messages (length s'.messages) ≡ leb s.limits.messages (length s.messages) = a.places (rw e) in
      (refuses y s' p formed).letter e ∙ rw (o, r, n) (sym ((refuses y s p formed).letter e))
  same-refusal (is-receive e) = receive-refusal e
  same-refusal (is-new e) =
      let l : s'.limits ≡ s.limits = a.limits in
      let o : s'.opened ≡ s.opened = a.count (rw e) in
      let w : transactor_at s' p.transactor ≡ transactor_at s p.transactor = a.takes p.transactor (Sees.acting (rw e)) in
      (refuses y s' p formed).new e ∙ (λ i. first (busy_refusal (o i) p.transactor (w i).status) (pick (leb (l i).transactors (o i)) 25 0)) ∙ sym ((refuses y s p formed).new e)
  same-refusal (is-send e) =
      let o : leb s'.opened p.other ≡ leb s.opened p.other = a.addressed p.other (Sees.send-to e) in
      let o' : leb s'.opened p.transactor ≡ leb s.opened p.transactor = a.opened p.transactor (Sees.acting (rw e)) in
      let w : transactor_at s' p.transactor ≡ transactor_at s p.transactor = a.takes p.transactor (Sees.acting (rw e)) in
      let n : s'.next ≡ s.next = a.next (rw e) in
      let r : leb s'.limits.messages (length s'.messages) ≡ leb s.limits.messages (length s.messages) = a.places (rw e) in
      (refuses y s' p formed).send e ∙ rw (o, o', w, r, n) (sym ((refuses y s p formed).send e))
  same-refusal (is-local b c) =
      let k = otherwise p.kind b c in
      let v : acts p.kind ≡ true = rw (k.from, k.upto) in
      let o : leb s'.opened p.transactor ≡ leb s.opened p.transactor = a.opened p.transactor (Sees.acting v) in
      let w : transactor_at s' p.transactor ≡ transactor_at s p.transactor = a.takes p.transactor (Sees.acting v) in
      (refuses y s' p formed).local b c ∙ rw (o, w) (sym ((refuses y s p formed).local b c))
  same-refusal (is-lose e) =
      let m : leb (length s'.messages) (place_of s' p.message) ≡ leb (length s.messages) (place_of s p.message) = a.missing (rw e) in
      (refuses y s' p formed).lose e ∙ rw m (sym ((refuses y s p formed).lose e))
  same-refusal (is-sign e) = (refuses y s' p formed).sign e ∙ sign-refusal e ∙ sym ((refuses y s p formed).sign e)

  -- ---- effects

  pub same-doing : (k : Kind p) → refusal y s p ≡ 0 → doing y s' p k ≡ doing y s p k
  unfolding doing
  same-doing (is-root e) z = let o : s'.opened ≡ s.opened = a.count (rw e) in rw o
  same-doing (is-letter e) z = let n : s'.next ≡ s.next = a.next (rw e) in rw n
  same-doing (is-receive e) z =
      let m : message_at s' (place_of s' p.message) ≡ message_at s (place_of s p.message) = same-message e in
      let x : transactor_at s' (receiver s' p.message) ≡ transactor_at s (receiver s p.message) = receiver-same e (present-receive y s p formed z e) in
      λ i. receive_doing y p (m i) (x i)
  same-doing (is-new e) z =
      let o : s'.opened ≡ s.opened = a.count (rw e) in
      let w : transactor_at s' p.transactor ≡ transactor_at s p.transactor = a.takes p.transactor (Sees.acting (rw e)) in
      λ i. new_doing y p (o i) (w i)
  same-doing (is-send e) z =
      let n : s'.next ≡ s.next = a.next (rw e) in
      let w : transactor_at s' p.transactor ≡ transactor_at s p.transactor = a.takes p.transactor (Sees.acting (rw e)) in
      λ i. record {
        reply = answer done p.transactor (n i) 0;
        delta = parcel_made (record { addressee = p.other; number = n i; value = p.value; dependences = carried y p.transactor (w i) });
      }
  same-doing (is-local b c) z =
      let k = otherwise p.kind b c in
      let w : transactor_at s' p.transactor ≡ transactor_at s p.transactor = a.takes p.transactor (Sees.acting (rw (k.from, k.upto))) in
      rw w
  same-doing (is-lose e) z = refl
  same-doing (is-sign e) z =
      let g : group_ready y s' p.message ≡ group_ready y s p.message = ready-same e in
      let f : ◌≡◌ {A = ℕ → Option Transactor} (λ t. pick (named p.message t) (some (checkpoint_by y t (transactor_at s' t))) none) (λ t. pick (named p.message t) (some (checkpoint_by y t (transactor_at s t))) none) =
      λ i t. signed_same e t i in
      λ i. pick (g i) (record { reply = answer done 0 0 0; delta = takes_new (f i) }) (record { reply = answer not_ready 0 0 0; delta = nothing })
