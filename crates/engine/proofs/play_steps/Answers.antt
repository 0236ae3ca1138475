use Rattle.std.proofs.Common.{length, refl, ap, sym, ◌∙◌, arith, ◌≡◌, ◌≤◌}
use Rattle.octets.proofs.Put.{octets-of, length-put}
use Rattle.octets.proofs.Tables.{read-within}
use Rattle.rules.specs.Step.{step_at}
use Rattle.session.proofs.Run.{length-pack_reply}
use Rattle.engine_tables.specs.Internal.Turns.{place_of}
use Rattle.engine_tables.specs.Internal.Places.{most}
use Rattle.engine_tables.proofs.Placing.{placed-within}
use Rattle.engine.proofs.Playing.{playing-none, playing-group, playing-more, playing-all, can-walk, subject-below, ahead}
use Rattle.engine.proofs.Advancing.{settled, group-settled}
use Rattle.engine.proofs.play_steps.Goals as goal
use Rattle.engine.proofs.play_steps.Goals.{then-p-number, else-p-number}

pub loop-i-init : goal.loop-i-init
loop-i-init c = record { playing = rw c.fresh-x.ensures (playing-none _ _ _ _ _ _ refl _ refl); long = refl }

-- ---- a signing

pub sign-requires : goal.sign-requires
sign-requires c = (
  can-walk _ c.requires.range _ (octets-of _ c.type_inv.list) _ c.loop-i.invariant.playing (omega (arith, c.loop-i-test.true, c.requires.short)) (omega (arith, c.loop-i-test.true)) (omega (arith, c.loop-i-test.true, c.loop-i.invariant.long, c.requires.room)),
  c.if-p-number.true ∙ c.number.ensures,
)

-- ---- another step

pub bounds-slots-k : goal.bounds-slots-k
bounds-slots-k c = let w : c.place-k.result ≤ most = rw c.place-k.ensures (placed-within _) in omega arith

pub offset_bounds-slots-k : goal.offset_bounds-slots-k
offset_bounds-slots-k c = let w : c.place-k.result ≤ most = rw c.place-k.ensures (placed-within _) in record { fits = omega arith }

pub bounds-rows-t : goal.bounds-rows-t
unfolding step_at
bounds-rows-t c =
    let w : c.place-k.result ≤ most = rw c.place-k.ensures (placed-within _) in
    subject-below _ c.requires.range _ (octets-of _ c.type_inv.list) _ c.loop-i.invariant.playing _ c.decode-p.ensures _ _
    (read-within c.loop-i.slots c.place-k.result _ _ (omega (arith, c.loop-i.invariant.playing.slots-long))) _ c.subject-t.ensures

pub offset_bounds-rows-t : goal.offset_bounds-rows-t
unfolding step_at
offset_bounds-rows-t c =
    let w : c.place-k.result ≤ most = rw c.place-k.ensures (placed-within _) in
    let t = subject-below _ c.requires.range _ (octets-of _ c.type_inv.list) _ c.loop-i.invariant.playing _ c.decode-p.ensures _ _
    (read-within c.loop-i.slots c.place-k.result _ _ (omega (arith, c.loop-i.invariant.playing.slots-long))) _ c.subject-t.ensures in
    record { fits = omega arith }

pub advance-requires : goal.advance-requires
unfolding step_at place_of
advance-requires c =
    let w : c.place-k.result ≤ most = rw c.place-k.ensures (placed-within _) in
    let z = read-within c.loop-i.slots c.place-k.result _ _ (omega (arith, c.loop-i.invariant.playing.slots-long)) in
    let t = subject-below _ c.requires.range _ (octets-of _ c.type_inv.list) _ c.loop-i.invariant.playing _ c.decode-p.ensures _ _ z _ c.subject-t.ensures in (
      rw c.of-o.ensures (ahead _ c.requires.range _ (octets-of _ c.type_inv.list) _ c.loop-i.invariant.playing (omega (arith, c.loop-i-test.true, c.requires.short)) _ c.decode-p.ensures _ c.place-k.ensures _ z _ c.subject-t.ensures _
          (read-within c.loop-i.rows c.subject-t.result _ _ (omega (arith, c.loop-i.invariant.playing.rows_long)))
          (omega (arith, c.loop-i-test.true)) (omega (arith, c.loop-i-test.true, c.loop-i.invariant.long, c.requires.room))),
      λ (e : c.decode-p.result.kind ≡ 12). c.if-p-number.false (e ∙ sym c.number.ensures),
    )

pub bounds-slots-k-else-p-number : goal.bounds-slots-k-else-p-number
bounds-slots-k-else-p-number c = let w : c.place-k.result ≤ most = rw c.place-k.ensures (placed-within _) in omega arith

pub offset_bounds-slots-k-else-p-number : goal.offset_bounds-slots-k-else-p-number
offset_bounds-slots-k-else-p-number c = let w : c.place-k.result ≤ most = rw c.place-k.ensures (placed-within _) in record { fits = omega arith }

-- ---- after either

pub loop-i-preserved : goal.loop-i-preserved
unfolding step_at place_of
loop-i-preserved c =
    let p = c.requires in
    let l = c.loop-i.invariant in
    let o = octets-of _ c.type_inv.list in
    elim c.if-p-number.branch [
      | then-p-number w ↦ record {
        playing = playing-group _ p.range _ o _ l.playing _ c.decode-p.ensures _ (group-settled _ w.sign.result _ w.group_played-u.ensures w.sign.ensures) _ (w.replies-is ∙ w.encode.ensures) _ w.x-is _ w.rows-is _ w.slots-is (omega (arith, c.loop-i-test.true, p.room));
        long = ap length (w.replies-is ∙ w.encode.ensures) ∙ length-put _ _ _ (omega (arith, c.loop-i-test.true, l.long, p.room, length-pack_reply w.group_played-u.result.reply)) ∙ l.long;
      }
      | else-p-number w ↦
          let k : w.place-k.result ≤ most = rw w.place-k.ensures (placed-within _) in
          let z = read-within c.loop-i.slots w.place-k.result _ _ (omega (arith, l.playing.slots-long)) in
          let t = subject-below _ p.range _ o _ l.playing _ c.decode-p.ensures _ _ z _ w.subject-t.ensures in record {
            playing = playing-more _ p.range _ o _ l.playing (omega (arith, c.loop-i-test.true, p.short)) _ c.decode-p.ensures _ w.place-k.ensures _ z _ w.subject-t.ensures _
                (read-within c.loop-i.rows w.subject-t.result _ _ (omega (arith, l.playing.rows_long))) w.played-u.result
                (settled _ _ w.advance.result _ w.played-u.ensures w.of-o.ensures w.advance.ensures) _ (w.replies-is ∙ w.encode-else-p-number.ensures) _ w.x-is _ w.rows-is _ w.slots-is (omega (arith, c.loop-i-test.true, p.room));
            long = ap length (w.replies-is ∙ w.encode-else-p-number.ensures) ∙ length-put _ _ _ (omega (arith, c.loop-i-test.true, l.long, p.room, length-pack_reply w.played-u.result.reply)) ∙ l.long;
          }
    ]

pub returns : goal.returns
returns c =
    let p = c.requires in
    playing-all _ p.range _ (octets-of _ c.type_inv.list) _ _ p.room p.whole (omega (arith, c.loop-i-test.false)) c.loop-i.invariant.playing
