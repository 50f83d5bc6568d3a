mod Floors
mod Halved
mod Together
mod Missing
mod Products
mod Positive
mod Greatest
mod Once
