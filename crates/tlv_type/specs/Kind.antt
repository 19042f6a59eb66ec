-- The kinds of TLVs, IEEE 1588-2019, table 52, as far as the crate names them, and which of them are passed on downstream.
-- Assumes nothing.
use Rattle.std.specs.Prelude.{ℕ, List, [], ◌∷◌, Bool, cond, ◌||◌, ◌&&◌, eqb, leb}
use Rattle.tlv_type.specs.declared.TlvType.{TlvType}
use Rattle.tlv_type.specs.declared.TlvType.TheVariants.{Management, ManagementErrorStatus, OrganizationExtension, RequestUnicastTransmission, GrantUnicastTransmission, CancelUnicastTransmission, AcknowledgeCancelUnicastTransmission, PathTrace, AlternateTimeOffsetIndicator, OrganizationExtensionPropagate, EnhancedAccuracyMetrics, OrganizationExtensionDoNotPropagate, L1Sync, PortCommunicationAvailability, ProtocolAddress, SlaveRxSyncTimingData, SlaveRxSyncComputedData, SlaveTxEventTimestamps, CumulativeRateRatio, Pad, Authentication, Other}

-- the number of a kind: 1 to 9, 0x4000, 0x4001, 0x8000 to 0x8009, or that of any other
abbrev pub number_of : TlvType → ℕ
number_of Management = 1
number_of ManagementErrorStatus = 2
number_of OrganizationExtension = 3
number_of RequestUnicastTransmission = 4
number_of GrantUnicastTransmission = 5
number_of CancelUnicastTransmission = 6
number_of AcknowledgeCancelUnicastTransmission = 7
number_of PathTrace = 8
number_of AlternateTimeOffsetIndicator = 9
number_of OrganizationExtensionPropagate = 0x4000
number_of EnhancedAccuracyMetrics = 0x4001
number_of OrganizationExtensionDoNotPropagate = 0x8000
number_of L1Sync = 0x8001
number_of PortCommunicationAvailability = 0x8002
number_of ProtocolAddress = 0x8003
number_of SlaveRxSyncTimingData = 0x8004
number_of SlaveRxSyncComputedData = 0x8005
number_of SlaveTxEventTimestamps = 0x8006
number_of CumulativeRateRatio = 0x8007
number_of Pad = 0x8008
number_of Authentication = 0x8009
number_of (Other n) = n

-- the kinds that have names
abbrev pub named : List TlvType
named =
    Management ∷ ManagementErrorStatus ∷ OrganizationExtension ∷ RequestUnicastTransmission ∷ GrantUnicastTransmission
    ∷ CancelUnicastTransmission ∷ AcknowledgeCancelUnicastTransmission ∷ PathTrace ∷ AlternateTimeOffsetIndicator
    ∷ OrganizationExtensionPropagate ∷ EnhancedAccuracyMetrics ∷ OrganizationExtensionDoNotPropagate ∷ L1Sync
    ∷ PortCommunicationAvailability ∷ ProtocolAddress ∷ SlaveRxSyncTimingData ∷ SlaveRxSyncComputedData
    ∷ SlaveTxEventTimestamps ∷ CumulativeRateRatio ∷ Pad ∷ Authentication ∷ []

-- the one with a number, or the number
abbrev pub one_in : List TlvType → ℕ → TlvType
one_in [] n = Other n
one_in (k ∷ ks) n = cond (eqb n (number_of k)) k (one_in ks n)

unfoldable pub kind_of : ℕ → TlvType
kind_of n = one_in named n

-- 8, 9 and 0x4000 to 0x7FFF are passed on downstream
abbrev pub passed_on : ℕ → Bool
passed_on n = (leb 8 n && leb n 9) || (leb 0x4000 n && leb n 0x7fff)
