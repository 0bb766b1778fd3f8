use Rattle.std.proofs.Common.{refl}
use Rattle.sctp_association.proofs.Idle.{on_ok_so}
use Rattle.sctp_association.proofs.Known.{owes_alike}
use Rattle.sctp_association.proofs.Offering.{reply_one, reply_then}
use Rattle.sctp_association.proofs.Replying.{abort_reply, as_be32, as_missing, complete_reply}
use Rattle.sctp_association.proofs.Replying.{host_name_reply, no_cookie_reply, no_data_reply, shutting_reply, stale_reply}
use Rattle.sctp_association.proofs.association.Association.put_reply.Goals as goal

pub returns-in-StaleCookie-clause-reply : goal.returns-in-StaleCookie-clause-reply
returns-in-StaleCookie-clause-reply c = c.put_error.ensures.reply c.args.kind

pub returns-in-ShuttingDown-clause-reply : goal.returns-in-ShuttingDown-clause-reply
returns-in-ShuttingDown-clause-reply c =
    reply_then c.args.kind c.args.self.now _ _ (
    reply_one c.put-in-ShuttingDown.result _ c.args.kind c.args.self.now _ c.put-in-ShuttingDown.ensures.added tt tt
    (record {
      sender = refl;
      receiver = refl;
      path = refl;
    })
    (record {
      config = refl;
      key = refl;
      machine = refl;
      alone = refl;
      cookie = refl;
      events = refl;
      over = refl;
      wants = refl;
      control = refl;
      guard = refl;
      failures = refl;
      rto = refl;
      usable = λ s. refl;
      due = owes_alike _;
      sack = λ e. e;
      unknown = λ s e. e;
    })
    ) (c.put_error-in-ShuttingDown.ensures.reply c.args.kind)

pub returns-in-Abort-clause-reply : goal.returns-in-Abort-clause-reply
returns-in-Abort-clause-reply c = c.put_abort.ensures.reply c.args.kind

pub returns-in-NoCookie-clause-reply : goal.returns-in-NoCookie-clause-reply
returns-in-NoCookie-clause-reply c = c.put_abort-in-NoCookie.ensures.reply c.args.kind

pub returns-in-HostName-clause-reply : goal.returns-in-HostName-clause-reply
returns-in-HostName-clause-reply c = c.put_host_name.ensures.reply c.args.kind

pub returns-in-NoUserData-clause-reply : goal.returns-in-NoUserData-clause-reply
returns-in-NoUserData-clause-reply c = c.put_abort-in-NoUserData.ensures.reply c.args.kind

-- ## Exactly its chunks

pub returns-in-StaleCookie-clause-whole : goal.returns-in-StaleCookie-clause-whole
returns-in-StaleCookie-clause-whole c =
    on_ok_so _ (stale_reply _ _ _ _ _ c.in-StaleCookie.is (as_be32 _ _ c.to_be_bytes.ensures)) c.put_error.ensures.put

pub returns-in-ShuttingDown-clause-whole : goal.returns-in-ShuttingDown-clause-whole
returns-in-ShuttingDown-clause-whole c =
    let first = c.put-in-ShuttingDown.ensures in
    on_ok_so _ (shutting_reply _ _ _ _ (record {
      is_put = c.put-in-ShuttingDown.result;
      added = first.added;
      fits = first.fits;
      limit = first.limit;
      least = first.least;
    }) c.in-ShuttingDown.is first.put) c.put_error-in-ShuttingDown.ensures.put

pub returns-in-ShutdownComplete-clause-whole : goal.returns-in-ShutdownComplete-clause-whole
returns-in-ShutdownComplete-clause-whole c begun =
    let put = c.put-in-ShutdownComplete.ensures in
    complete_reply _ _ _ c.in-ShutdownComplete.is (record {
      is_put = c.put-in-ShutdownComplete.result;
      added = put.added;
      fits = put.fits;
      limit = put.limit;
      least = put.least;
    }) begun

pub returns-in-Abort-clause-whole : goal.returns-in-Abort-clause-whole
returns-in-Abort-clause-whole c =
    on_ok_so _ (abort_reply _ _ _ _ c.in-Abort.is) c.put_abort.ensures.put

pub returns-in-NoCookie-clause-whole : goal.returns-in-NoCookie-clause-whole
returns-in-NoCookie-clause-whole c =
    on_ok_so _ (no_cookie_reply _ _ _ _ c.in-NoCookie.is as_missing) c.put_abort-in-NoCookie.ensures.put

pub returns-in-NoUserData-clause-whole : goal.returns-in-NoUserData-clause-whole
returns-in-NoUserData-clause-whole c =
    on_ok_so _ (no_data_reply _ _ _ _ _ c.in-NoUserData.is (as_be32 _ _ c.to_be_bytes-in-NoUserData.ensures)) c.put_abort-in-NoUserData.ensures.put

pub returns-in-HostName-clause-whole : goal.returns-in-HostName-clause-whole
returns-in-HostName-clause-whole c =
    on_ok_so _ (host_name_reply _ _ _ c.in-HostName.is) c.put_host_name.ensures.put
