pub mod TransferCode
pub mod ForkLinesCode
pub mod MeetingLinesCode
