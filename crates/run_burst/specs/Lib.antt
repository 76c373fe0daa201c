pub mod KnowledgeCode
pub mod BurstCode
pub mod TurnCode
