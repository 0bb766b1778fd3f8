-- Exchanges of RFC 6525 5.1 and 5.2, worked by hand. The side that asks has the first TSN 100, and its last TSN is 120. Times are in
-- milliseconds, with an RTO of 500.
use Rattle.std.specs.Prelude.{◌≡◌, ℕ, Bool, true, ◌==◌, not, [], ◌∷◌, Some, None, refl}
use Rattle.std.proofs.Common.{List, inl, inr, lit<}
use Rattle.sctp_params.specs.declared.param.param_reconfig_response.ReconfigResult.TheVariants.{SuccessPerformed, Denied, ErrorBadSequenceNumber, InProgress}
use Rattle.sctp_reset.specs.declared.own_requests.Answer.TheVariants.{Performed, Refused, Wait, NotUnderWay}
use Rattle.sctp_reset.specs.declared.peer_requests.Due.TheVariants.{Perform, Again, Bad}
use Rattle.sctp_reset.specs.declared.peer_requests.PeerRequests.{PeerRequests}
use Rattle.sctp_reset.specs.Requests.{Request, Requests}
use Rattle.sctp_reset.specs.Own.{start, is_asked, is_idle, after_ask, after_begin, due_at, after_sent, answer_to, after_response}
use Rattle.sctp_reset.specs.Agreement.{Event, asked, began, sent, came, answered, returned, opened, MayAllHappen, after_events}
use Rattle.sctp_reset.specs.Peer.{expects, last_number, response, first_due, without_first, due_for, after_request, after_answer}

abbrev all_drained : ℕ → Bool
all_drained s = true

abbrev all_but_7 : ℕ → Bool
all_but_7 s = not (s == 7)

-- ## The side that asks

-- streams 5, 7 and 9 are to be reset, and 5 once more
abbrev all_asked : Requests
all_asked = after_ask 5 (after_ask 9 (after_ask 7 (after_ask 5 (start 100))))

each_waits_once : all_asked ≡ record { waiting = 5 ∷ 7 ∷ 9 ∷ []; under_way = None; next_number = 100 }
each_waits_once = refl

-- those that are drained go into one request, in order; 7 waits on
abbrev begun : Requests
begun = after_begin all_but_7 20 120 1000 all_asked

abbrev first_request : Request
first_request = record { number = 100; last_tsn = 120; streams = 5 ∷ 9 ∷ []; at = 1000; unanswered = 0 }

drained_streams_go_together : begun ≡ record { waiting = 7 ∷ []; under_way = Some first_request; next_number = 101 }
drained_streams_go_together = refl

-- where one stream fits, the first one goes
one_fits : (after_begin all_drained 1 120 1000 all_asked).waiting ≡ 7 ∷ 9 ∷ []
one_fits = refl

-- while a request is under way no other begins, though 7 is drained by then (RFC 6525 5.1.1)
one_at_a_time : after_begin all_drained 20 130 1100 begun ≡ begun
one_at_a_time = refl

-- a request that lists no stream would be for all: it does not begin
none_drained : after_begin all_but_7 20 120 1000 (after_ask 7 (start 100)) ≡ after_ask 7 (start 100)
none_drained = refl

-- it is sent at 1000, is not due before 1500, and then its one sending has failed
abbrev sent_once : Requests
sent_once = after_sent 1000 500 begun

due_at_once : due_at 1000 begun.under_way ≡ Some first_request
due_at_once = refl

not_due_early : due_at 1499 sent_once.under_way ≡ None
not_due_early = refl

due_again : due_at 1500 sent_once.under_way ≡ Some (record first_request { at = 1500; unanswered = 1 })
due_again = refl

-- ## A reset that is performed (RFC 6525 5.2.2 E3 to E6, 5.2.7)

abbrev arrived : PeerRequests
arrived = after_request 100 (expects 100)

to_perform : due_for 100 (expects 100) ≡ Perform
to_perform = refl

abbrev performed : PeerRequests
performed = after_answer SuccessPerformed arrived

performed_is_due : first_due performed ≡ Some (response 100 SuccessPerformed)
performed_is_due = refl

abbrev settled : Requests
settled = after_response 100 SuccessPerformed 1040 500 sent_once

streams_performed : answer_to 100 SuccessPerformed sent_once.under_way ≡ Performed (record first_request { at = 1500; unanswered = 1 })
streams_performed = refl

only_7_waits : settled ≡ record { waiting = 7 ∷ []; under_way = None; next_number = 101 }
only_7_waits = refl

-- the next request has the next number on both sides
next_begins : (after_begin all_drained 20 130 1100 settled).under_way
    ≡ Some (record { number = 101; last_tsn = 130; streams = 7 ∷ []; at = 1100; unanswered = 0 })
next_begins = refl

next_expected : due_for 101 performed ≡ Perform
next_expected = refl

-- ## The response is lost, and the request comes again: it is answered alike, and not performed again (RFC 6525 5.2.1)

abbrev lost : PeerRequests
lost = without_first performed

nothing_due : first_due lost ≡ None
nothing_due = refl

not_again : due_for 100 lost ≡ Again SuccessPerformed
not_again = refl

same_response : after_request 100 lost ≡ performed
same_response = refl

-- the response that was late comes after all: nothing changes
late_response : answer_to 100 SuccessPerformed settled.under_way ≡ NotUnderWay
late_response = refl

late_changes_nothing : after_response 100 SuccessPerformed 1600 500 settled ≡ settled
late_changes_nothing = refl

-- so with the response to another request
other_response : answer_to 101 SuccessPerformed sent_once.under_way ≡ NotUnderWay
other_response = refl

other_changes_nothing : after_response 101 SuccessPerformed 1040 500 sent_once ≡ sent_once
other_changes_nothing = refl

-- ## Chunks up to the last TSN are missing: in progress, then performed (RFC 6525 5.2.2 E2, 5.2.7)

abbrev deferred : PeerRequests
deferred = after_answer InProgress arrived

progress_is_due : first_due deferred ≡ Some (response 100 InProgress)
progress_is_due = refl

abbrev waits : Requests
waits = after_response 100 InProgress 1040 500 sent_once

to_wait : answer_to 100 InProgress sent_once.under_way ≡ Wait
to_wait = refl

-- the timer starts anew, and the sending that follows is no failure
comes_again_later : waits.under_way ≡ Some (record first_request { at = 1540; unanswered = 0 })
comes_again_later = refl

still_asked : is_asked 9 waits ≡ true
still_asked = refl

-- the request has its number again, and now it can be performed
deferred_again : due_for 100 (without_first deferred) ≡ Perform
deferred_again = refl

abbrev performed_then : PeerRequests
performed_then = after_answer SuccessPerformed (after_request 100 (without_first deferred))

performed_then_as_at_once : performed_then ≡ performed
performed_then_as_at_once = refl

ends_then : after_response 100 SuccessPerformed 1580 500 (after_sent 1540 500 waits) ≡ settled
ends_then = refl

-- where it is performed before the request comes again, the response is due at once (E5), in place of the one in progress
performed_unasked : first_due (after_answer SuccessPerformed deferred) ≡ Some (response 100 SuccessPerformed)
performed_unasked = refl

-- ## A reset that is refused (RFC 6525 4.4, 5.2.1)

denied_again : due_for 100 (after_answer Denied arrived) ≡ Again Denied
denied_again = refl

streams_refused : answer_to 100 Denied sent_once.under_way ≡ Refused (record first_request { at = 1500; unanswered = 1 }) Denied
streams_refused = refl

-- it is over, and its number is used up
refused_is_over : after_response 100 Denied 1040 500 sent_once ≡ settled
refused_is_over = refl

-- a number that is not expected: too early, or before the first
too_early : due_for 105 (expects 100) ≡ Bad
too_early = refl

before_the_first : due_for 99 (expects 100) ≡ Bad
before_the_first = refl

bad_is_due : first_due (after_request 105 (expects 100)) ≡ Some (response 105 ErrorBadSequenceNumber)
bad_is_due = refl

-- and 100 is expected as before
bad_moves_nothing : due_for 100 (after_request 105 (expects 100)) ≡ Perform
bad_moves_nothing = refl

-- "Bad sequence number" ends a request as any refusal does
bad_is_refused : answer_to 100 ErrorBadSequenceNumber sent_once.under_way ≡ Refused (record first_request { at = 1500; unanswered = 1 }) ErrorBadSequenceNumber
bad_is_refused = refl

-- ## Two requests in one RE-CONFIG chunk (RFC 6525 3.1): a reset, and a request that is denied

abbrev both : PeerRequests
both = after_answer Denied (after_request 101 performed)

older_first : first_due both ≡ Some (response 100 SuccessPerformed)
older_first = refl

newer_then : first_due (without_first both) ≡ Some (response 101 Denied)
newer_then = refl

-- the chunk comes again: both are answered alike
both_again : after_request 101 (after_request 100 (without_first (without_first both))) ≡ both
both_again = refl

-- ## Both sides at once: the other side has the first TSN 900, and asks for stream 3

abbrev other_sent : Requests
other_sent = after_sent 1000 500 (after_begin all_drained 20 950 1000 (after_ask 3 (start 900)))

abbrev other_arrived : PeerRequests
other_arrived = after_answer SuccessPerformed (after_request 900 (expects 900))

-- what each side asked is performed by the other, and no number of one is a number of the other
other_ends : is_idle (after_response 900 SuccessPerformed 1040 500 other_sent) ≡ true
other_ends = refl

crossing_changes_nothing : after_response 100 SuccessPerformed 1040 500 other_sent ≡ other_sent
crossing_changes_nothing = refl

-- a request that follows names the last one of the other side (RFC 6525 4.1)
names_last : last_number other_arrived ≡ 900
names_last = refl

names_none : last_number (expects 900) ≡ 899
names_none = refl

-- ## Numbers wrap (RFC 6525 4.1)

wraps : (after_begin all_drained 20 120 1000 (after_ask 5 (start 4294967295))).next_number ≡ 0
wraps = refl

wraps_too : due_for 4294967295 (after_answer SuccessPerformed (after_request 4294967295 (expects 4294967295))) ≡ Again SuccessPerformed
wraps_too = refl

-- ## A network that repeats and delays: the request comes twice, and the response to the first comes last

abbrev delayed : List Event
delayed =
    asked 5 ∷ began all_drained 20 120 1000 ∷ sent 1000 500 ∷ came 0 ∷ answered InProgress ∷ came 0 ∷ answered SuccessPerformed
    ∷ returned (response 100 SuccessPerformed) 1040 500 ∷ returned (response 100 InProgress) 1050 500 ∷ came 0
    ∷ returned (response 100 SuccessPerformed) 1060 500 ∷ []

all_may_happen : MayAllHappen 100 delayed (opened 100)
all_may_happen = (tt, (tt, (tt, (lit< tt, (refl, (lit< tt, (refl, (inl refl, (inr (inl refl), (lit< tt, (inl refl, tt)))))))))))

said_once : (after_events 100 delayed (opened 100)).words ≡ SuccessPerformed ∷ []
said_once = refl

ended_once : (after_events 100 delayed (opened 100)).ends ≡ SuccessPerformed ∷ []
ended_once = refl

idle_in_the_end : is_idle (after_events 100 delayed (opened 100)).own ≡ true
idle_in_the_end = refl
