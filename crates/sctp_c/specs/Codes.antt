-- The numbers and the names of what a call of the library for C answers. Under 16 the call was done, from 16 on it was refused. A number
-- or a name that was given out never changes: new ones follow the last.
use Rattle.std.specs.Prelude.{ℕ}
use Rattle.sctp_util.specs.declared.error.Error.{Error}
use Rattle.sctp_util.specs.declared.error.Error.TheVariants.{ErrPacketRawTooSmall, ErrChecksumMismatch, ErrParseSctpChunkNotEnoughData}
use Rattle.sctp_util.specs.declared.error.Error.TheVariants.{ErrUnmarshalUnknownChunkType, ErrSctpPacketSourcePortZero, ErrSctpPacketDestinationPortZero}
use Rattle.sctp_util.specs.declared.error.Error.TheVariants.{ErrInitChunkBundled, ErrInitChunkVerifyTagNotZero, ErrChunkHeaderTooSmall}
use Rattle.sctp_util.specs.declared.error.Error.TheVariants.{ErrChunkHeaderInvalidLength, ErrChunkHeaderNotEnoughSpace, ErrChunkHeaderPaddingNonZero}
use Rattle.sctp_util.specs.declared.error.Error.TheVariants.{ErrChunkTypeNotAbort, ErrChunkTypeNotCookieAck, ErrChunkTypeNotCookieEcho, ErrChunkTypeNotCt}
use Rattle.sctp_util.specs.declared.error.Error.TheVariants.{ErrChunkTypeNotForwardTsn, ErrChunkTypeNotHeartbeat, ErrChunkTypeNotHeartbeatAck}
use Rattle.sctp_util.specs.declared.error.Error.TheVariants.{ErrChunkTypeNotTypeInit, ErrChunkTypeNotPayloadData, ErrChunkTypeNotReconfig, ErrChunkTypeNotSack}
use Rattle.sctp_util.specs.declared.error.Error.TheVariants.{ErrChunkTypeNotShutdown, ErrChunkTypeNotShutdownAck, ErrChunkTypeNotShutdownComplete}
use Rattle.sctp_util.specs.declared.error.Error.TheVariants.{ErrChunkTooShort, ErrChunkPayloadSmall, ErrChunkValueNotLongEnough, ErrChunkTypeInitFlagZero}
use Rattle.sctp_util.specs.declared.error.Error.TheVariants.{ErrChunkTypeInitInitiateTagZero, ErrInitInboundStreamRequestZero, ErrInitOutboundStreamRequestZero}
use Rattle.sctp_util.specs.declared.error.Error.TheVariants.{ErrInitAdvertisedReceiver1500, ErrHeartbeatNotLongEnoughInfo, ErrHeartbeatParam}
use Rattle.sctp_util.specs.declared.error.Error.TheVariants.{ErrHeartbeatAckParams, ErrHeartbeatAckNotHeartbeatInfo, ErrChunkReconfigInvalidParamA}
use Rattle.sctp_util.specs.declared.error.Error.TheVariants.{ErrChunkReconfigInvalidParamCombination, ErrSackSizeNotLargeEnoughInfo, ErrInvalidChunkSize}
use Rattle.sctp_util.specs.declared.error.Error.TheVariants.{ErrErrorCauseTooSmall, ErrParamHeaderTooShort, ErrParamTypeUnhandled, ErrParamTypeUnexpected}
use Rattle.sctp_util.specs.declared.error.Error.TheVariants.{ErrSsnResetRequestParamTooShort, ErrSsnResetRequestParamInvalidLength}
use Rattle.sctp_util.specs.declared.error.Error.TheVariants.{ErrReconfigRespParamTooShort, ErrInvalidAlgorithmType, ErrSupportedAddressTypesParamInvalidLength}
use Rattle.sctp_util.specs.declared.error.Error.TheVariants.{ErrInboundPacketTooLarge, ErrShortBuffer, ErrLengthTooLarge, ErrOutOfMemory}
use Rattle.sctp_receiver.specs.declared.receiver.refusal.ReceiverRefusal.{ReceiverRefusal}
use Rattle.sctp_receiver.specs.declared.receiver.refusal.ReceiverRefusal.TheVariants as receiver
use Rattle.sctp_sender.specs.declared.sender.refusal.SenderRefusal.{SenderRefusal}
use Rattle.sctp_sender.specs.declared.sender.refusal.SenderRefusal.TheVariants as sender

-- of what stands below the two halves
abbrev pub error_code : Error → ℕ
error_code ErrPacketRawTooSmall = 40
error_code ErrChecksumMismatch = 20
error_code ErrParseSctpChunkNotEnoughData = 41
error_code ErrUnmarshalUnknownChunkType = 21
error_code ErrSctpPacketSourcePortZero = 42
error_code ErrSctpPacketDestinationPortZero = 43
error_code ErrInitChunkBundled = 44
error_code ErrInitChunkVerifyTagNotZero = 45
error_code ErrChunkHeaderTooSmall = 46
error_code ErrChunkHeaderInvalidLength = 47
error_code ErrChunkHeaderNotEnoughSpace = 48
error_code ErrChunkHeaderPaddingNonZero = 49
error_code ErrChunkTypeNotAbort = 50
error_code ErrChunkTypeNotCookieAck = 51
error_code ErrChunkTypeNotCookieEcho = 52
error_code ErrChunkTypeNotCt = 53
error_code ErrChunkTypeNotForwardTsn = 54
error_code ErrChunkTypeNotHeartbeat = 55
error_code ErrChunkTypeNotHeartbeatAck = 56
error_code ErrChunkTypeNotTypeInit = 57
error_code ErrChunkTypeNotPayloadData = 58
error_code ErrChunkTypeNotReconfig = 59
error_code ErrChunkTypeNotSack = 60
error_code ErrChunkTypeNotShutdown = 61
error_code ErrChunkTypeNotShutdownAck = 62
error_code ErrChunkTypeNotShutdownComplete = 63
error_code ErrChunkTooShort = 64
error_code ErrChunkPayloadSmall = 65
error_code ErrChunkValueNotLongEnough = 66
error_code ErrChunkTypeInitFlagZero = 67
error_code ErrChunkTypeInitInitiateTagZero = 68
error_code ErrInitInboundStreamRequestZero = 69
error_code ErrInitOutboundStreamRequestZero = 70
error_code ErrInitAdvertisedReceiver1500 = 71
error_code ErrHeartbeatNotLongEnoughInfo = 72
error_code ErrHeartbeatParam = 73
error_code ErrHeartbeatAckParams = 74
error_code ErrHeartbeatAckNotHeartbeatInfo = 75
error_code ErrChunkReconfigInvalidParamA = 76
error_code ErrChunkReconfigInvalidParamCombination = 77
error_code ErrSackSizeNotLargeEnoughInfo = 78
error_code ErrInvalidChunkSize = 79
error_code ErrErrorCauseTooSmall = 80
error_code ErrParamHeaderTooShort = 81
error_code (ErrParamTypeUnhandled typ) = 82
error_code ErrParamTypeUnexpected = 83
error_code ErrSsnResetRequestParamTooShort = 84
error_code ErrSsnResetRequestParamInvalidLength = 85
error_code ErrReconfigRespParamTooShort = 86
error_code ErrInvalidAlgorithmType = 87
error_code ErrSupportedAddressTypesParamInvalidLength = 88
error_code ErrInboundPacketTooLarge = 24
error_code ErrShortBuffer = 89
error_code ErrLengthTooLarge = 19
error_code ErrOutOfMemory = 16

abbrev pub sender_code : SenderRefusal → ℕ
sender_code sender.StreamOpen = 22
sender_code sender.StreamUnknown = 23
sender_code sender.StreamBusy = 31
sender_code sender.MessageTooLarge = 24
sender_code sender.QueueFull = 25
sender_code sender.TsnsUsedUp = 26
sender_code sender.SsnsUsedUp = 32
sender_code sender.NotInFlight = 27
sender_code sender.InflightQueueTsnPop = 28
sender_code sender.TsnRequestNotExist = 29
sender_code sender.OutOfMemory = 16

abbrev pub receiver_code : ReceiverRefusal → ℕ
receiver_code receiver.StreamOpen = 22
receiver_code receiver.StreamUnknown = 23
receiver_code receiver.TsnOpposite = 30
receiver_code receiver.MessageTooLarge = 24
receiver_code receiver.TsnTooFar = 34
receiver_code receiver.WindowFull = 35
receiver_code receiver.SsnTooFar = 36
receiver_code receiver.NamedStreamUnknown = 37
receiver_code receiver.NamedSsnTooFar = 38
receiver_code receiver.ResetInProgress = 39
receiver_code receiver.OutOfMemory = 16
