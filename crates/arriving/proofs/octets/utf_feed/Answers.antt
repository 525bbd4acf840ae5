-- The open character's rest, and then whole characters up to a fault. Assumes nothing.
use Rattle.std.proofs.Common.{◌∙◌, refl, rules}
use Rattle.rules.proofs.Outcomes.{utf8_done, utf8_fault}
use Rattle.arriving.proofs.OctetsLaws.{feed_short, feed_broken, feed_done, feed_fault}
use Rattle.arriving.proofs.octets.utf_feed.Goals as goal
use Rattle.arriving.proofs.octets.utf_feed.Goals.{then-u-via-then-u, then-u-via-else-u+then-is_empty}

pub returns-then-u : goal.returns-then-u
returns-then-u c =
    elim c.then-u.branch [
      | then-u-via-then-u w ↦
          feed_broken _ _ _ _ _ _ _ c.rest_of.ensures c.split_at.ensures.front c.split_at.ensures.back c.bytes-u.ensures w.if-u.true
      | then-u-via-else-u+then-is_empty w ↦
          feed_short _ _ _ _ _ _ _ c.rest_of.ensures c.split_at.ensures.front c.split_at.ensures.back c.bytes-u.ensures (search rules)
    ]

pub returns-in-Ok : goal.returns-in-Ok
returns-in-Ok c =
    c.whole.ensures
    ∙ feed_done _ _ _ _ _ _ _ c.rest_of.ensures c.split_at.ensures.front c.split_at.ensures.back c.bytes-u.ensures (search rules)
    c.if-u.false (utf8_done c.in-Ok.ensures)

pub returns-in-Err : goal.returns-in-Err
returns-in-Err c =
    c.bytes.ensures
    ∙ feed_fault _ _ _ _ _ _ _ c.rest_of.ensures c.split_at.ensures.front c.split_at.ensures.back c.bytes-u.ensures (search rules)
    c.if-u.false _ _ _ (utf8_fault c.in-Err.ensures) c.whole-in-Err.ensures refl
