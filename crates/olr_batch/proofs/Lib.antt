mod Common
mod Tokens
mod Lines
mod Replies
mod Stepping
mod Written
mod Stopping
mod Leaving
