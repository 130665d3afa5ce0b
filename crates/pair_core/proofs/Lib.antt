mod PairShown
mod PairBeside
pub mod PairRows
mod PairDuty
pub mod PairReport
mod PairHalts
mod PairRegister
mod PairTaken
mod PairRegisterStarted
mod PairStarted
mod PairOpened
mod PairLearned
mod PairReady
mod PairWritten
mod PairBooked
mod PairMessages
mod PairShipped
mod PairDelivered
mod PairReceived
mod PairPassed
mod PairStored
