use Rattle.std.proofs.Common.{arith}
use Rattle.fairness.specs.Laws.{Comparison}
use Rattle.board.specs.Meaning.{Meaning}
use Rattle.search.proofs.Searches.{trying_start, trying-more, trying-all}
use Rattle.search.proofs.search_from.Goals as goal

pub loop-head-init : goal.loop-head-init
loop-head-init g c =
    let m : Meaning = g.B.Board.build.meaning c.args.board.now in
    rw (c.reach.ensures, c.requires.fresh) (trying_start (g.R.Rule.order c.args.rule.now) m c.args.gainer c.requires.good.sound c.requires.gainer)

pub loop-head-preserved : goal.loop-head-preserved
loop-head-preserved g c =
    let m : Meaning = g.B.Board.build.meaning c.args.board.now in
    let compare : Comparison = g.R.Rule.order c.args.rule.now in
    trying-more compare m c.args.gainer c.requires.good.sound c.requires.gainer c.loop-head.search c.open_wanted.new.search c.loop-head.head
    c.loop-head.invariant (omega arith) (cc (c.if-should_gain.ensures, c.share_of-share.ensures.is, c.share_of.ensures.is, c.task_at.ensures)) c.open_wanted.ensures

pub returns : goal.returns
returns g c =
    let m : Meaning = g.B.Board.build.meaning c.args.board.now in
    let compare : Comparison = g.R.Rule.order c.args.rule.now in
    let vain = trying-all compare m c.args.gainer c.requires.good.sound c.requires.gainer (g.R.Rule.lawful c.args.rule.now) c.loop-head.search c.loop-head.head c.loop-head.invariant (omega arith) in
    record { sought = λ none. (vain none).own; spoken = vain }

pub returns-then-should_gain : goal.returns-then-should_gain
returns-then-should_gain g c =
    let m : Meaning = g.B.Board.build.meaning c.args.board.now in
    let h = c.loop-head.invariant in
    record {
      sought = record {
        trail = h.complete.trail;
        first = h.first;
        layered = h.complete.layered;
        gathered = h.complete.gathered;
        early = h.early;
        here = omega arith;
        gains = cc (c.if-should_gain.ensures, c.share_of-share.ensures.is, c.share_of.ensures.is, c.task_at.ensures);
      };
      spoken = tt;
    }
