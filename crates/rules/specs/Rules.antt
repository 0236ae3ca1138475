-- Document 01, "A take and its steps": the table of kinds, falls, receive, sign.
use Rattle.std.specs.Prelude.{ℕ, ◌+◌, Bool, true, false, not, length, eqb, leb}
use Rattle.std.proofs.Math.Option.{Option, none, some}
use Rattle.octets.specs.Bytes.{pick, ◌and◌, ◌or◌, tabulate, every}
use Rattle.marks.specs.declared.History.{History}
use Rattle.marks.specs.Incarnation.{checkpointed_in, same_incarnation}
use Rattle.marks.specs.History.{incarnation_of, initial_history, stabilized, rolled_back, checkpointed}
use Rattle.maps.specs.declared.DependenceMap.{DependenceMap}
use Rattle.maps.specs.Map.{held_at, history_at, empty_map, with_entry, singleton, join_of, first_superseded, any_unrelated}
use Rattle.maps.specs.News.{informed_of}
use Rattle.rules.specs.Layout.{Layout}
use Rattle.rules.specs.Status.{idle, busy, annihilated}
use Rattle.rules.specs.State.{Transactor, Message, State, bare, transactor_at, message_at, own_history, live, with_status, with_value, with_state, with_behaviour, with_transactor, with_opened, with_message, without_message, place_of}
use Rattle.rules.specs.Refusals.{Seen, named, refusal_of}
use Rattle.rules.specs.Step.{Step, Reply, done, held, dropped, fallen_back, vanished, not_ready, root, letter, receive, new, send, read, write, freeze, finish, fall, lose, sign}

abbrev pub is_some : Option ℕ → Bool
is_some none = false
is_some (some i) = true

-- ---- maps of a layout

abbrev pub no_dependences : Layout → DependenceMap
no_dependences y = empty_map y.places y.transactors

abbrev pub only : Layout → ℕ → History → DependenceMap
only y t h = singleton y.places y.transactors t h

abbrev pub join : Layout → DependenceMap → DependenceMap → DependenceMap
join y a b = join_of y.transactors a b

-- creation, behaviour and own mark joined
unfoldable pub carried : Layout → ℕ → Transactor → DependenceMap
carried y t x = join y (join y x.creation x.behaviour) (only y t (own_history t x))

-- ---- falls

pub record Effect : Type 0 where
  pub outcome : ℕ
  -- text read
  pub value : ℕ
  pub transactor : Transactor

-- idle, state map the mark h alone, other maps empty
abbrev pub renewed : Layout → ℕ → History → ℕ → ℕ → Transactor
renewed y t h v saved = record {
  status = idle;
  value = v;
  saved = saved;
  state = only y t h;
  creation = no_dependences y;
  behaviour = no_dependences y;
}

-- A take never signed vanishes, and only its status is left. Any other takes its next mark and saved text, state map its
-- own mark alone, other maps empty, idle.
unfoldable pub rollback : Layout → ℕ → Transactor → Effect
rollback y t x =
    pick (eqb (own_history t x).count 0)
    (record { outcome = vanished; value = 0; transactor = bare y annihilated })
    (record { outcome = fallen_back; value = 0; transactor = renewed y t (rolled_back (own_history t x)) x.saved x.saved })

-- ---- kinds 5 to 10: one take alone

abbrev pub unchanged : ℕ → Transactor → Effect
unchanged outcome x = record { outcome = outcome; value = 0; transactor = x }

-- replies the text; state map joins behaviour map
unfoldable pub read_by : Layout → Transactor → Effect
read_by y x = record { outcome = done; value = x.value; transactor = with_behaviour x (join y x.state x.behaviour) }

-- sets text; behaviour map joins state map; frozen: held, no change
unfoldable pub write_by : Layout → ℕ → ℕ → Transactor → Effect
write_by y t v x =
    pick (own_history t x).stable (unchanged held x)
    (unchanged done (with_state (with_value x v) (join y x.behaviour x.state)))

-- freezes; frozen already: no change, done
unfoldable pub freeze_by : ℕ → Transactor → Effect
freeze_by t x = unchanged done (with_state x (with_entry x.state t (stabilized (own_history t x))))

-- idle, behaviour map emptied
abbrev pub made_idle : Layout → Transactor → Transactor
made_idle y x = with_behaviour (with_status x idle) (no_dependences y)

unfoldable pub finish_by : Layout → Transactor → Effect
finish_by y x = unchanged done (made_idle y x)

-- frozen: held, and idle with behaviour map emptied; else falls
unfoldable pub fall_by : Layout → ℕ → Transactor → Effect
fall_by y t x = pick (own_history t x).stable (unchanged held (made_idle y x)) (rollback y t x)

-- frozen: held, no change; else falls
unfoldable pub fail_by : Layout → ℕ → Transactor → Effect
fail_by y t x = pick (own_history t x).stable (unchanged held x) (rollback y t x)

-- kind k of 5 to 10 with text v on take t
unfoldable pub local_by : Layout → ℕ → ℕ → ℕ → Transactor → Effect
local_by y k t v x =
    pick (eqb k read) (read_by y x)
    (pick (eqb k write) (write_by y t v x)
    (pick (eqb k freeze) (freeze_by t x)
    (pick (eqb k finish) (finish_by y x)
    (pick (eqb k fall) (fall_by y t x)
    (fail_by y t x)))))

-- ---- receive

-- the parcel's map is compared with state and creation maps joined
abbrev pub known : Layout → Transactor → DependenceMap
known y x = join y x.state x.creation

-- a mark of the parcel is stale by the take's mark
unfoldable pub message_superseded : Layout → Transactor → Message → Bool
message_superseded y x m = is_some (first_superseded y.transactors m.dependences (known y x))

-- a mark of the take is stale by the parcel's
unfoldable pub receiver_superseded : Layout → Transactor → Message → Bool
receiver_superseded y x m = is_some (first_superseded y.transactors (known y x) m.dependences)

-- document 02, W3: some take has unrelated marks in the parcel and in the receiver's joined state and creation maps
unfoldable pub message_unrelated : Layout → Transactor → Message → Bool
message_unrelated y x m = any_unrelated y.transactors m.dependences (known y x)

-- document 02, W4, "News of a freeze", "to be done in state and creation maps": take t after the parcel's map m
abbrev pub informed_by : Layout → ℕ → Transactor → DependenceMap → Transactor
informed_by y t x m = record {
  status = x.status;
  value = x.value;
  saved = x.saved;
  state = informed_of y.transactors t x.state m;
  creation = informed_of y.transactors t x.creation m;
  behaviour = x.behaviour;
}

-- at work, and its behaviour map is the parcel's map; with the news, "whenever a receipt has outcome 0 and in no other outcome"
abbrev pub taken : Layout → ℕ → Transactor → DependenceMap → Transactor
taken y t x m = with_behaviour (with_status (informed_by y t x m) busy) m

-- dropped; or the take falls, frozen or not; or the parcel is taken in
unfoldable pub receive_by : Layout → ℕ → Transactor → Message → Effect
receive_by y t x m =
    pick (message_superseded y x m) (unchanged dropped x)
    (pick (receiver_superseded y x m) (rollback y t x)
    (record { outcome = done; value = m.value; transactor = taken y t x m.dependences }))

-- ---- sign

-- h, a mark of take u, is of a signed life, or of the present life of a named take
unfoldable pub entry_ready : State → ℕ → ℕ → History → Bool
entry_ready s v u h =
    live (transactor_at s u)
    and (checkpointed_in (incarnation_of h) (incarnation_of (own_history u (transactor_at s u)))
    or (named v u and same_incarnation (incarnation_of h) (incarnation_of (own_history u (transactor_at s u)))))

-- every mark of a map is
unfoldable pub map_ready : Layout → State → ℕ → DependenceMap → Bool
map_ready y s v m = every y.transactors (λ u. not (held_at m u) or entry_ready s v u (history_at m u))

-- a named take is frozen, and every mark in its state and creation maps is
unfoldable pub transactor_ready : Layout → State → ℕ → ℕ → Bool
transactor_ready y s v t =
    (own_history t (transactor_at s t)).stable
    and map_ready y s v (transactor_at s t).state
    and map_ready y s v (transactor_at s t).creation

-- a volume is ready: every take that it names is
unfoldable pub group_ready : Layout → State → ℕ → Bool
group_ready y s v = every y.transactors (λ t. not (named v t) or transactor_ready y s v t)

-- saves its text, takes its new mark, state map that mark alone, other maps empty, idle
unfoldable pub checkpoint_by : Layout → ℕ → Transactor → Transactor
checkpoint_by y t x = renewed y t (checkpointed (own_history t x)) x.value x.value

unfoldable pub checkpoint_at : Layout → State → ℕ → ℕ → Transactor
checkpoint_at y s v t = pick (named v t) (checkpoint_by y t (transactor_at s t)) (transactor_at s t)

-- signing a volume: every take that it names is signed, the others stay as they are
unfoldable pub checkpoint_group : Layout → State → ℕ → State
checkpoint_group y s v = record { limits = s.limits; opened = s.opened; next = s.next; transactors = tabulate y.transactors (checkpoint_at y s v); messages = s.messages }

-- ---- refusals

-- the receipt of the parcel with number n makes its addressee fall
unfoldable pub receipt_rolls_back : Layout → State → ℕ → Bool
receipt_rolls_back y s n =
    let m : Message = message_at s (place_of s n) in
    let x : Transactor = transactor_at s m.addressee in
    not (message_superseded y x m) and receiver_superseded y x m

-- the parcel with number n and its addressee have unrelated marks of some take
unfoldable pub receipt_unrelated : Layout → State → ℕ → Bool
receipt_unrelated y s n =
    let m : Message = message_at s (place_of s n) in
    message_unrelated y (transactor_at s m.addressee) m

-- what the table of refusals looks at
unfoldable pub seen : Layout → State → Seen
seen y s = record {
  limits = s.limits;
  opened = s.opened;
  next = s.next;
  waiting = length s.messages;
  status = λ t. (transactor_at s t).status;
  stable = λ t. (own_history t (transactor_at s t)).stable;
  checkpoints = λ t. (own_history t (transactor_at s t)).count;
  incarnation = λ t. (own_history t (transactor_at s t)).incarnation;
  missing = λ n. leb (length s.messages) (place_of s n);
  addressee = λ n. (message_at s (place_of s n)).addressee;
  rolls = receipt_rolls_back y s;
  unrelated = receipt_unrelated y s;
}

unfoldable pub refusal : Layout → State → Step → ℕ
refusal y s p = refusal_of y (seen y s) p

-- ---- the kinds

pub record Result : Type 0 where
  pub reply : Reply
  pub state : State

abbrev pub answer : ℕ → ℕ → ℕ → ℕ → Reply
answer outcome t k v = record { outcome = outcome; transactor = t; message = k; value = v }

-- a take as root opens it: idle, opening mark, saved text 0; its creation map is given
abbrev pub opening : Layout → ℕ → ℕ → DependenceMap → Transactor
opening y t v creation = record {
  status = idle;
  value = v;
  saved = 0;
  state = only y t (initial_history y.places);
  creation = creation;
  behaviour = no_dependences y;
}

-- s with one more take opened
unfoldable pub opened : State → Transactor → State
opened s x = with_opened (with_transactor s s.opened x) (s.opened + 1)

-- 0 root
unfoldable pub apply_root : Layout → State → Step → Result
apply_root y s p = record {
  reply = answer done s.opened 0 0;
  state = opened s (opening y s.opened p.value (no_dependences y));
}

-- 1 letter: from outside, empty map
unfoldable pub apply_letter : Layout → State → Step → Result
apply_letter y s p = record {
  reply = answer done p.transactor s.next 0;
  state = with_message s p.transactor p.value (no_dependences y);
}

-- 2 receive: the parcel is used up in all four outcomes
unfoldable pub apply_receive : Layout → State → Step → Result
apply_receive y s p =
    let k : ℕ = place_of s p.message in
    let t : ℕ = (message_at s k).addressee in
    let e : Effect = receive_by y t (transactor_at s t) (message_at s k) in
    record {
      reply = answer e.outcome t p.message e.value;
      state = without_message (with_transactor s t e.transactor) k;
    }

-- 3 new: the child's creation map is made first, then the child's opening mark joins the opener's behaviour map
unfoldable pub apply_new : Layout → State → Step → Result
apply_new y s p =
    let t : ℕ = p.transactor in
    let x : Transactor = transactor_at s t in
    let grown : Transactor = with_behaviour x (join y (only y s.opened (initial_history y.places)) x.behaviour) in
    record {
      reply = answer done s.opened 0 0;
      state = opened (with_transactor s t grown) (opening y s.opened p.value (carried y t x));
    }

-- 4 send
unfoldable pub apply_send : Layout → State → Step → Result
apply_send y s p = record {
  reply = answer done p.transactor s.next 0;
  state = with_message s p.other p.value (carried y p.transactor (transactor_at s p.transactor));
}

-- 5 to 10
unfoldable pub apply_local : Layout → State → Step → Result
apply_local y s p =
    let e : Effect = local_by y p.kind p.transactor p.value (transactor_at s p.transactor) in
    record {
      reply = answer e.outcome p.transactor 0 e.value;
      state = with_transactor s p.transactor e.transactor;
    }

-- 11 lose
unfoldable pub apply_lose : State → Step → Result
apply_lose s p = record { reply = answer done 0 p.message 0; state = without_message s (place_of s p.message) }

-- 12 sign
unfoldable pub apply_sign : Layout → State → Step → Result
apply_sign y s p =
    pick (group_ready y s p.message)
    (record { reply = answer done 0 0 0; state = checkpoint_group y s p.message })
    (record { reply = answer not_ready 0 0 0; state = s })

-- a step that is not refused
unfoldable pub apply : Layout → State → Step → Result
apply y s p =
    pick (eqb p.kind root) (apply_root y s p)
    (pick (eqb p.kind letter) (apply_letter y s p)
    (pick (eqb p.kind receive) (apply_receive y s p)
    (pick (eqb p.kind new) (apply_new y s p)
    (pick (eqb p.kind send) (apply_send y s p)
    (pick (eqb p.kind lose) (apply_lose s p)
    (pick (eqb p.kind sign) (apply_sign y s p)
    (apply_local y s p)))))))

-- a step: refused with its number and all else 0, the state untouched; or applied
unfoldable pub step_of : Layout → State → Step → Result
step_of y s p =
    pick (eqb (refusal y s p) 0) (apply y s p)
    (record { reply = answer (refusal y s p) 0 0 0; state = s })
