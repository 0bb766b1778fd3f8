-- The types of parameters: their numbers and their printed names (RFC 4960 3.2.1, RFC 3758 3.1, RFC 4895 3, RFC 5061 4, RFC 6525 4).
use Rattle.std.specs.Prelude.{ℕ, ◌==◌, if◌then◌else◌, List, [], ◌∷◌, codes}
use Rattle.sctp_params.specs.declared.param.param_type.ParamType.{ParamType}
use Rattle.sctp_params.specs.declared.param.param_type.ParamType.TheVariants.{HeartbeatInfo, Ipv4Addr, Ipv6Addr, StateCookie, UnrecognizedParam}
use Rattle.sctp_params.specs.declared.param.param_type.ParamType.TheVariants.{CookiePreservative, HostNameAddr, SupportedAddrTypes, OutSsnResetReq}
use Rattle.sctp_params.specs.declared.param.param_type.ParamType.TheVariants.{IncSsnResetReq, SsnTsnResetReq, ReconfigResp, AddOutStreamsReq, AddIncStreamsReq}
use Rattle.sctp_params.specs.declared.param.param_type.ParamType.TheVariants.{Random, ChunkList, ReqHmacAlgo, Padding, SupportedExt, ForwardTsnSupp, AddIpAddr}
use Rattle.sctp_params.specs.declared.param.param_type.ParamType.TheVariants.{DelIpaddr, ErrClauseInd, SetPriAddr, SuccessInd, AdaptLayerInd, Unknown}

abbrev pub type_number : ParamType → ℕ
type_number HeartbeatInfo = 1
type_number Ipv4Addr = 5
type_number Ipv6Addr = 6
type_number StateCookie = 7
type_number UnrecognizedParam = 8
type_number CookiePreservative = 9
type_number HostNameAddr = 11
type_number SupportedAddrTypes = 12
type_number OutSsnResetReq = 13
type_number IncSsnResetReq = 14
type_number SsnTsnResetReq = 15
type_number ReconfigResp = 16
type_number AddOutStreamsReq = 17
type_number AddIncStreamsReq = 18
type_number Random = 32770
type_number ChunkList = 32771
type_number ReqHmacAlgo = 32772
type_number Padding = 32773
type_number SupportedExt = 32776
type_number ForwardTsnSupp = 49152
type_number AddIpAddr = 49153
type_number DelIpaddr = 49154
type_number ErrClauseInd = 49155
type_number SetPriAddr = 49156
type_number SuccessInd = 49157
type_number AdaptLayerInd = 49158
type_number (Unknown n) = n

-- the types that have a name of their own
abbrev pub named_types : List ParamType
named_types =
    HeartbeatInfo
    ∷ Ipv4Addr
    ∷ Ipv6Addr
    ∷ StateCookie
    ∷ UnrecognizedParam
    ∷ CookiePreservative
    ∷ HostNameAddr
    ∷ SupportedAddrTypes
    ∷ OutSsnResetReq
    ∷ IncSsnResetReq
    ∷ SsnTsnResetReq
    ∷ ReconfigResp
    ∷ AddOutStreamsReq
    ∷ AddIncStreamsReq
    ∷ Random
    ∷ ChunkList
    ∷ ReqHmacAlgo
    ∷ Padding
    ∷ SupportedExt
    ∷ ForwardTsnSupp
    ∷ AddIpAddr
    ∷ DelIpaddr
    ∷ ErrClauseInd
    ∷ SetPriAddr
    ∷ SuccessInd
    ∷ AdaptLayerInd
    ∷ []

-- the one of these types with this number, or else the unknown type
abbrev pub type_among : List ParamType → ℕ → ParamType
type_among [] n = Unknown n
type_among (t ∷ ts) n = if n == type_number t then t else type_among ts n

-- the type with this number
unfoldable pub type_from : ℕ → ParamType
type_from n = type_among named_types n

-- the printed name of a type
abbrev pub type_name : ParamType → List ℕ
type_name HeartbeatInfo = codes "Heartbeat Info"
type_name Ipv4Addr = codes "IPv4 IP"
type_name Ipv6Addr = codes "IPv6 IP"
type_name StateCookie = codes "State Cookie"
type_name UnrecognizedParam = codes "Unrecognized Parameters"
type_name CookiePreservative = codes "Cookie Preservative"
type_name HostNameAddr = codes "Host Name IP"
type_name SupportedAddrTypes = codes "Supported IP Types"
type_name OutSsnResetReq = codes "Outgoing SSN Reset Request Parameter"
type_name IncSsnResetReq = codes "Incoming SSN Reset Request Parameter"
type_name SsnTsnResetReq = codes "SSN/TSN Reset Request Parameter"
type_name ReconfigResp = codes "Re-configuration Response Parameter"
type_name AddOutStreamsReq = codes "Add Outgoing Streams Request Parameter"
type_name AddIncStreamsReq = codes "Add Incoming Streams Request Parameter"
type_name Random = codes "Random"
type_name ChunkList = codes "Chunk List"
type_name ReqHmacAlgo = codes "Requested HMAC Algorithm Parameter"
type_name Padding = codes "Padding"
type_name SupportedExt = codes "Supported Extensions"
type_name ForwardTsnSupp = codes "Forward TSN supported"
type_name AddIpAddr = codes "Add IP IP"
type_name DelIpaddr = codes "Delete IP IP"
type_name ErrClauseInd = codes "Error Cause Indication"
type_name SetPriAddr = codes "Set Primary IP"
type_name SuccessInd = codes "Success Indication"
type_name AdaptLayerInd = codes "Adaptation Layer Indication"
type_name (Unknown n) = codes "Unknown ParamType"
