mod Current
mod Quieting
mod Handing
mod Growing
mod Working
