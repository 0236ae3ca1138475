use Rattle.std.proofs.Common.{rules, tests, refl, ◌∙◌, ◌+◌, ◌*◌, eqb}
use Rattle.std.proofs.lemmas.Iterator.{YieldsList-from_range}
use Rattle.std.proofs.lemmas.Iterator.Search.{all_from_yields_List}
use Rattle.octets.specs.Bytes.{part}
use Rattle.octets.proofs.Ranges.{all-ranged}
use Rattle.marks.specs.Packed.{width, places, history_size, present_in, unpack_history}
use Rattle.maps.specs.Heard.{stable_entry}
use Rattle.maps.specs.Packed.{entries}
use Rattle.maps.proofs.Heard.{others-packed}
use Rattle.stability.proofs.others_stable.Goals as goal

pub returns : goal.returns
returns c =
    all_from_yields_List (λ i. stable_entry (eqb i c.args.t) (present_in (part (c.args.at + history_size width places * i) (history_size width places) c.args.s.now)) (unpack_history width places (part (c.args.at + history_size width places * i) (history_size width places) c.args.s.now)))
    _ _ c.all.result c.all.ensures.ran (YieldsList-from_range 0 16 16 refl refl) (λ x b q k. (search (rules, tests), search (rules, tests)))
    ∙ all-ranged _ 16
    ∙ others-packed width places entries _ _ _
