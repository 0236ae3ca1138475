use Rattle.std.proofs.Common.{rules, arith, tests, refl, ◌∙◌, ◌+◌, ◌*◌, ltb}
use Rattle.std.proofs.lemmas.Iterator.{YieldsList-from_range}
use Rattle.std.proofs.lemmas.Iterator.Search.{all_from_yields_List}
use Rattle.octets.specs.Bytes.{part}
use Rattle.octets.proofs.Ranges.{all-ranged}
use Rattle.marks.specs.Packed.{width, places, history_size}
use Rattle.maps.specs.Packed.{entries, formed_entry}
use Rattle.maps.proofs.Placed.{formed-looked}
use Rattle.packed_maps.proofs.formed.Goals as goal

pub returns : goal.returns
returns c =
    let n = c.looked_at-end.result in
    all_from_yields_List (λ i. formed_entry width c.args.limit (ltb i c.args.opened) (part (c.args.at + history_size width places * i) (history_size width places) c.args.s.now))
    _ _ c.all.result c.all.ensures.ran (YieldsList-from_range 0 n n refl (omega arith)) (λ x b q k. (search (rules, tests), search (rules, tests)))
    ∙ all-ranged _ n
    ∙ formed-looked width places entries _ _ c.requires.0 _ c.looked_at-end.ensures.0 _ _
