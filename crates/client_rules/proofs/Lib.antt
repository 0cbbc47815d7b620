mod SentLiedRow
mod SentRestartRow
mod SentFetchRow
mod SentBarrierRow
mod SentTicksRow
mod SentFetchedRow
mod SentLiesRow
