-- The engine: from step to step by its tables, the step list and the replies given so far; it has no maps.
use Rattle.std.specs.Prelude.{ℕ, zero, suc, Bool, not, List, [], ◌++◌}
use Rattle.octets.specs.Bytes.{◌and◌, ◌or◌, every}
use Rattle.rules.specs.Layout.{Layout, Limits}
use Rattle.rules.specs.declared.Step.{Step}
use Rattle.rules.specs.Step.{step_at, pack_reply}
use Rattle.rules.specs.Refusals.{group_bits, named}
use Rattle.rules.specs.Calls.{steps_in}
use Rattle.engine_tables.specs.Internal.Tables.{Tables, fresh_tables, Played, play}
use Rattle.engine_chains.specs.Internal.Walk.{Walk, receipt_back, sign_walk}

-- every take that g names is frozen
unfoldable pub all_stable : Tables → ℕ → Bool
all_stable T g = every group_bits (λ t. not (named g t) or (T.rows t).stable)

-- the walk for the receipt of parcel n by its addressee, over the first i steps
unfoldable pub receipt_walk : Tables → List ℕ → List ℕ → ℕ → ℕ → Walk
receipt_walk T steps replies i n = receipt_back steps replies i n (T.messages n).addressee

unfoldable pub ready_in : Tables → List ℕ → List ℕ → ℕ → ℕ → Bool
ready_in T steps replies i g = all_stable T g and not (sign_walk steps replies i g).right_is_superseded and not (sign_walk steps replies i g).unallowed

-- step i, where the tables are T and the replies to those before it are given
unfoldable pub play_step : Layout → List ℕ → List ℕ → ℕ → Tables → Played
play_step y steps replies i T =
    let p : Step = step_at steps i in
    play y T p
    (receipt_walk T steps replies i p.message).left_is_superseded
    (receipt_walk T steps replies i p.message).right_is_superseded
    (ready_in T steps replies i p.message)

-- ---- all steps

-- the tables, and the packed replies so far
pub record Engine : Type 0 where
  pub tables : Tables
  pub replies : List ℕ

unfoldable pub engine_after : Layout → Limits → List ℕ → ℕ → Engine
engine_after y m steps zero = record { tables = fresh_tables m; replies = [] }
engine_after y m steps (suc i) =
    let x : Engine = engine_after y m steps i in
    let r : Played = play_step y steps x.replies i x.tables in
    record { tables = r.tables; replies = x.replies ++ pack_reply r.reply }

-- its replies to a list of steps
unfoldable pub engine_replies : Layout → Limits → List ℕ → List ℕ
engine_replies y m steps = (engine_after y m steps (steps_in steps)).replies
