pub mod Admissions
pub mod DetachedReplies
pub mod HeaderLabels
pub mod MessageReplies
pub mod Replies
pub mod ShownMessages
pub mod Trailing
pub mod UnmetRequirements
