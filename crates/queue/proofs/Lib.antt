pub mod OrderLaws
pub mod ContentLaws
pub mod HeapLaws
pub mod WaitLaws
