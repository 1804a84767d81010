pub mod Calls
pub mod Disk
pub mod MemoryFiles
pub mod MemoryShelf
pub mod MemorySink
pub mod Shelf
pub mod Sink
pub mod StdSink
