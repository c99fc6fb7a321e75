pub mod Laws
pub mod PhaseTable
pub mod HandshakeState
