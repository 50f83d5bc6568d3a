mod Common
mod CloseLaws
mod Looks
mod OneLooking
mod InOrder
mod Verdicts
