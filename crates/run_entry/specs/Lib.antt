pub mod ForkCode
pub mod MeetingCode
pub mod EntryCode
