use Rattle.sctp_association.proofs.Leaving.{with_limit}
use Rattle.std.proofs.Common.{[], false, ◌∙◌}
use Rattle.sctp_association.specs.Leaving.{replies_of}
use Rattle.sctp_association.proofs.Others.{written}
use Rattle.sctp_association.proofs.Replying.{replied}
use Rattle.sctp_association.proofs.association.Association.put_alone.Goals as goal
use Rattle.sctp_association.specs.Offering.{IsReplyOf}
use Rattle.sctp_association.specs.Packets.{IsOf}

pub returns-in_err-put_reply-clause-halves : goal.returns-in_err-put_reply-clause-halves
returns-in_err-put_reply-clause-halves c =
    record {
      sender = c.put_reply.ensures.reply.halves.sender;
      receiver = c.put_reply.ensures.reply.halves.receiver;
      path = c.put_reply.ensures.reply.halves.path;
    }

pub returns-clause-halves : goal.returns-clause-halves
returns-clause-halves c =
    record {
      sender = c.put_reply.ensures.reply.halves.sender;
      receiver = c.put_reply.ensures.reply.halves.receiver;
      path = c.put_reply.ensures.reply.halves.path;
    }

pub returns-clause-written : goal.returns-clause-written
returns-clause-written c =
    written _ false (IsOf [] []) c.put_reply.ensures.reply.chunks _ _ _ c.in_ok-begin.ensures.begun c.put_reply.ensures.reply.added
    c.put_reply.ensures.reply.own c.seal.ensures.sealed

pub returns-clause-offers : goal.returns-clause-offers
returns-clause-offers c =
    written _ false (IsReplyOf c.args.self.now.key c.args.self.now.machine c.args.alone.kind) c.put_reply.ensures.reply.chunks _ _ _
    c.in_ok-begin.ensures.begun c.put_reply.ensures.reply.added c.put_reply.ensures.reply.replies c.seal.ensures.sealed

pub returns-in_err-put_reply-clause-kept : goal.returns-in_err-put_reply-clause-kept
returns-in_err-put_reply-clause-kept c =
    let kept = c.put_reply.ensures.reply.kept in
    record {
      config = kept.config;
      key = kept.key;
      machine = kept.machine;
      alone = kept.alone;
      cookie = kept.cookie;
      events = kept.events;
      over = kept.over;
      wants = kept.wants;
      control = kept.control;
      guard = kept.guard;
      failures = kept.failures;
      rto = kept.rto;
      usable = kept.usable;
      due = kept.due;
      sack = kept.sack;
      unknown = kept.unknown;
    }

pub returns-clause-kept : goal.returns-clause-kept
returns-clause-kept c =
    let kept = c.put_reply.ensures.reply.kept in
    record {
      config = kept.config;
      key = kept.key;
      machine = kept.machine;
      alone = kept.alone;
      cookie = kept.cookie;
      events = kept.events;
      over = kept.over;
      wants = kept.wants;
      control = kept.control;
      guard = kept.guard;
      failures = kept.failures;
      rto = kept.rto;
      usable = kept.usable;
      due = kept.due;
      sack = kept.sack;
      unknown = kept.unknown;
    }

pub returns-clause-reply : goal.returns-clause-reply
returns-clause-reply c =
    let whole = c.in_ok-put_reply.ensures.whole c.in_ok-begin.ensures.head in
    replied c.args.alone c.args.self.now _ c.header-header.result whole.chunks _ _ _ c.begin.ensures.limit whole.are c.header-header.ensures
    c.in_ok-begin.ensures.begun whole.added c.seal.ensures.sealed

pub returns-in_err-put_reply-clause-replies : goal.returns-in_err-put_reply-clause-replies
returns-in_err-put_reply-clause-replies c = c.put_reply.ensures.replies ∙ with_limit (replies_of c.args.self.now) _ c.begin.ensures.limit

pub returns-clause-replies : goal.returns-clause-replies
returns-clause-replies c = with_limit (replies_of c.put_reply.new.self) _ c.seal.ensures.limit ∙ c.put_reply.ensures.replies
    ∙ with_limit (replies_of c.args.self.now) _ c.begin.ensures.limit

pub returns-in_err-put_reply-clause-timed : goal.returns-in_err-put_reply-clause-timed
returns-in_err-put_reply-clause-timed c = let t = c.put_reply.ensures.timed in
    record { heartbeat = t.heartbeat; idle = t.idle; requests = t.requests; peer = t.peer }

pub returns-clause-timed : goal.returns-clause-timed
returns-clause-timed c = let t = c.put_reply.ensures.timed in record { heartbeat = t.heartbeat; idle = t.idle; requests = t.requests; peer = t.peer }
