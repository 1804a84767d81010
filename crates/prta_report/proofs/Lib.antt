pub mod RunsInTurn
pub mod TraceMisses
pub mod CertificateLines
pub mod Lines
